-- A loading master goes on to load when a roll begins or ends.
use Rattle.std.proofs.Common.{◌≡◌, ℕ, ◌<◌, ◌⊎◌, inl, inr, true, false, List, [], ◌++◌, length, refl, sym, ap, subst}
use Rattle.std.proofs.Common.{◌∙◌, arith}
use Rattle.std.specs.Prelude.{Option, Some, None}
use Rattle.std.proofs.lemmas.Bool.{cases_eq}
use Rattle.std.proofs.lemmas.List.{append-nil}
use Rattle.std.proofs.lemmas.Option.{same_Some}
use Rattle.entry.specs.declared.key.Key.{Key}
use Rattle.entry.specs.declared.entry.Entry.{Entry}
use Rattle.entry.specs.Bag.{IsAmong}
use Rattle.entry.specs.Meaning.{Contents, IsOfKey}
use Rattle.entry.proofs.BagLemmas.{among_push}
use Rattle.versioned_map.specs.declared.command.Record.{Record}
use Rattle.versioned_map.specs.History.{commands_of}
use Rattle.versioned_map.specs.Represents.{Represents}
use Rattle.versioned_map.specs.Versioned.{State, after}
use Rattle.log_bytes.specs.log_laws.Heads.{Start}
use Rattle.log_bytes.proofs.log_laws.IdLists.{below_at}
use Rattle.log_bytes.proofs.log_laws.RecordedAnew.{recorded_anew}
use Rattle.log_bytes.specs.log_laws.Loading.{HasOnly}
use Rattle.log_bytes.specs.log_laws.Memory.{LogSet, Pass, new_ids}
use Rattle.log_bytes.proofs.log_laws.ImageLists.{image_here, image_there}
use Rattle.log_bytes.proofs.log_laws.LogSetChanges.{IsMore, more_tracked, more_around, was_in}
use Rattle.log_bytes.specs.log_laws.Text.{Text}
use Rattle.log_bytes.specs.log_laws.Shown.{Shown}
use Rattle.log_bytes.specs.log_laws.Data.{bare, front_entries, Mode, Calm, Repairs, FailData, new_of, is_failing}
use Rattle.log_bytes.specs.log_laws.Data.{state_of}
use Rattle.log_bytes.specs.log_laws.Log.{Texts, IsBase, BasesStand}
use Rattle.log_bytes.specs.log_laws.Steps.{rolling, texts_rolling, ids_now, next_start, MayTurn, IsRoll, ended}
use Rattle.log_bytes.specs.log_laws.Steps.{EndsRoll}
use Rattle.log_bytes.proofs.log_laws.Ending.{ending_is_held}
use Rattle.log_bytes.proofs.log_laws.KnownSteps.{rolling_known, ending_known}
use Rattle.log_bytes.proofs.log_laws.Rolling.{rolling_is_held}
use Rattle.log_bytes.proofs.log_laws.Texts.{base_moves, variant_back, at_new, new_there, new_other, new_images}
use Rattle.log_bytes.proofs.log_laws.Texts.{new_none}
use Rattle.log_bytes.proofs.log_laws.Turning.{base_push, ordinary_is_roll}
use Rattle.log_memory.specs.Intact.{AreRepaired, Knows}
use Rattle.log_memory.specs.Loading.{IsLoading, LoadingRollKeeps, LoadingEndKeeps}
use Rattle.log_memory.specs.Memory.{FailMemory, entries_in, log_ids, log_set_of, AreImages}
use Rattle.log_memory.specs.Steps.{rolled}
use Rattle.log_memory.proofs.Ids.{ids_out, in_digest, in_survivors, now_is, now_out, now_own, now_others, new_in}
use Rattle.log_memory.proofs.Ids.{now_none, new_one}
use Rattle.log_memory.proofs.LoadingOps.{knows_log}
use Rattle.log_memory.proofs.Openings.{IsImage, beginning, no_keys, image_bare, image_still}

-- its present state is its opening
pub opening_is : (d : FailData) → d.history ≡ [] → d.opening ≡ state_of d
opening_is d begins = ap (λ (records : List Record). after d.opening (commands_of records)) (sym begins)

-- and it has no survivors
pub none_survive : (d : FailData) (m : FailMemory) (p : Shown) → IsLoading d m p → (s : ℕ)
    → IsAmong s m.pass.survivors → IsAmong s (log_ids d m)
none_survive d m p i s c = absurd (subst (λ (x : Pass). IsAmong s x.survivors) i.idle.pass c)

-- ---- a roll begins

module _ (d : FailData) (m : FailMemory) (p : Shown) (mode : Mode) (i : IsLoading d m p) (may : MayTurn d mode) where
  abbrev n : Start
  n = next_start d

  abbrev id : ℕ
  id = d.head.start.id

  abbrev e : FailData
  e = rolling d n mode

  abbrev memory : FailMemory
  memory = rolled d m n false

  abbrev now : Texts
  now = texts_rolling i.texts n

  abbrev log : LogSet
  log = log_set_of d m i.texts

  abbrev new : LogSet
  new = log_set_of e memory now

  abbrev contents : Contents
  contents = d.opening.contents

  roll : IsRoll d i.texts p n mode
  roll = ordinary_is_roll d i.texts p mode i.held may

  is_new : new_of mode ≡ Some n
  is_new = elim may.may as (λ _. new_of mode ≡ Some n) [
    | inl calm ↦ ap new_of calm.1
    | inr mends ↦ ap new_of mends.1
  ]

  no_new : new_of d.mode ≡ None
  no_new = elim may.may as (λ _. new_of d.mode ≡ None) [
    | inl calm ↦ ap new_of calm.0
    | inr mends ↦ ap new_of mends.0
  ]

  -- no roll is under way before, nor is a failover ending then
  not_calm : mode ≡ Calm → ⊥
  not_calm is = let never : None ≡ Some n = sym (ap new_of is) ∙ is_new in cc

  not_repairs : mode ≡ Repairs → ⊥
  not_repairs is = let never : None ≡ Some n = sym (ap new_of is) ∙ is_new in cc

  was_failing : is_failing mode ≡ true → is_failing d.mode ≡ true
  was_failing fails = elim may.may as (λ _. is_failing d.mode ≡ true) [
    | inl calm ↦ absurd (let never : false ≡ true = sym (ap is_failing calm.1) ∙ fails in cc)
    | inr mends ↦ ap is_failing mends.0
  ]

  new_is : (x : Start) → new_of mode ≡ Some x → n ≡ x
  new_is x is = same_Some n x (sym is_new ∙ is)

  safe_is : n.safe ≡ d.opening.safe
  safe_is = sym (ap (λ (st : State). st.safe) (opening_is d i.begins))

  -- ---- what texts stand for

  base_before : (ids : List ℕ) → ((s : ℕ) → IsAmong s ids → s < d.next) → (base : List Entry) → IsBase now ids base
      → IsBase i.texts ids base
  base_before ids below base at = base_moves now i.texts ids (λ s es c variant.
      variant_back i.texts now s es
      (at_new i.texts n.id (bare n) s (λ same. let lt = below s c in omega arith)) variant) base at

  old_below : (s : ℕ) → IsAmong s d.head.start.others → s < d.next
  old_below s c =
      let lt = below_at id d.head.start.others s i.held.logged.head.below c in
      let next = i.held.logged.head.next in omega arith

  stands : (id ≡ 0 → ⊥) → (base : List Entry) → IsBase now d.head.start.others base
      → Represents d.head.start.safe (base ++ front_entries d.head (length d.head.units)) d.opening
  stands some base at = i.stands some base (base_before d.head.start.others old_below base at)

  -- before the first head nothing was loaded
  blank_stands : id ≡ 0 → BasesStand now n d.opening
  blank_stands none base at =
      let contents : (k : Key) → d.opening.contents k ≡ None = i.blank none in
      let nothing : base ≡ [] =
      subst (λ (ids : List ℕ). IsBase now ids base) (now_none d.head.start none) at in
      subst (λ (safe : ℕ). Represents safe base d.opening) (sym safe_is)
      (subst (λ (bag : List Entry). Represents d.opening.safe bag d.opening) (sym nothing) (record {
        meaning = λ k x. (
          λ h. absurd (let never : None ≡ Some x = sym (contents k) ∙ h in cc),
          λ top. absurd top.held,
        );
        clean = λ o q a b at v. absurd a;
        below = λ k e no l of. absurd l;
        safe = omega arith;
      }))

  -- the new base is all that the log holds
  some_stands : (id ≡ 0 → ⊥) → BasesStand now n d.opening
  some_stands some base at =
      let front = front_entries d.head (length d.head.units) in
      let before = base_before n.others (λ s c. below_at n.id n.others s roll.below c) base at in
      let parts = base_push i.texts d.head.start.others id base
      (subst (λ (ids : List ℕ). IsBase i.texts ids base) (now_is d.head.start some) before) in
      let own : parts.0 ≡ front = elim parts.2 as (λ _. parts.0 ≡ front) [
        | inl text ↦ text ∙ ap (λ (t : Text). t.entries) i.held.logged.text
        | inr image ↦ absurd (subst (λ (l : List (List Entry)). IsAmong parts.0 l) i.held.logged.one image)
      ] in
      subst (λ (safe : ℕ). Represents safe base d.opening) (sym safe_is)
      (subst (λ (bag : List Entry). Represents d.opening.safe bag d.opening)
      (ap (λ (es : List Entry). parts.1 ++ es) (sym own) ∙ sym parts.4)
      (recorded_anew d.head.start.safe (parts.1 ++ front) d.opening (i.stands some parts.1 parts.3)))

  new_stands : BasesStand now n d.opening
  new_stands = elim (cases_eq id 0) as (λ _. BasesStand now n d.opening) [
    | inl none ↦ blank_stands none
    | inr some ↦ some_stands some
  ]

  -- ---- the log set

  older : (s : ℕ) → IsAmong s (log_ids d m) → s ≡ n.id → ⊥
  older s c same = let lt = i.around.below s c in omega arith

  either_id : (s : ℕ) → IsAmong s (log_ids e memory) → IsAmong s (log_ids d m) ⊎ (s ≡ n.id)
  either_id s c = elim (ids_out e memory s c) as (λ _. IsAmong s (log_ids d m) ⊎ (s ≡ n.id)) [
    | inl l ↦ inl (in_digest d m s l)
    | inr (inl l) ↦ inr (sym (new_one (new_of mode) n s is_new l))
    | inr (inr l) ↦ inl (in_survivors d m s l)
  ]

  still_id : (s : ℕ) → IsAmong s (log_ids d m) → IsAmong s (log_ids e memory)
  still_id s c = elim (ids_out d m s c) as (λ _. IsAmong s (log_ids e memory)) [
    | inl l ↦ in_digest e memory s l
    | inr (inl l) ↦ absurd (subst (λ (x : Option Start). IsAmong s (new_ids x)) no_new l)
    | inr (inr l) ↦ in_survivors e memory s l
  ]

  abbrev opening : List Entry
  opening = beginning d.config.master n.id (bare n).opening

  new_image : (s : ℕ) → s ≡ n.id → memory.images s ≡ opening
  new_image s same = ap memory.images same ∙ image_here m.images n.id opening

  new_text : (s : ℕ) → s ≡ n.id → entries_in now s ≡ []
  new_text s same = ap (entries_in now) same ∙ ap (λ (t : Text). t.entries) (new_there i.texts n.id (bare n))

  more : IsMore log new
  more = record {
    counted = still_id;
    image = λ s c. image_there m.images n.id opening s (older s c);
    text = λ s c. ap (λ (t : Text). t.entries) (new_other i.texts n.id (bare n) s (older s c));
    blank = λ s c. elim (either_id s c) as (λ _. IsAmong s (log_ids d m)
        ⊎ ((f : Entry) (k : Key) → IsOfKey k f → IsAmong f (new.image s) ⊎ IsAmong f (new.text s) → ⊥)) [
          | inl l ↦ inl l
          | inr same ↦ inr (λ f k at l. elim l as (λ _. ⊥) [
            | inl a ↦ no_keys d.config.master n.id (bare n).opening f k
                (subst (λ (es : List Entry). IsAmong f es) (new_image s same) a) at
            | inr a ↦ subst (λ (es : List Entry). IsAmong f es) (new_text s same) a
          ])
        ];
  }

  only : HasOnly new contents
  only k s f none l at = i.only k s f none (was_in log new more s f k at l) at

  images : AreImages e memory now
  images s c = elim (either_id s c) as (λ _. IsImage d.config.master s (now.text s) (memory.images s)) [
    | inl l ↦ image_still d.config.master s (i.texts.text s) (now.text s) (m.images s) (memory.images s)
        (ap (λ (t : Text). t.opening) (new_other i.texts n.id (bare n) s (older s l)))
        (image_there m.images n.id opening s (older s l)) (i.images s l)
    | inr same ↦ subst (λ (y : ℕ). IsImage d.config.master y (now.text y) (memory.images y)) (sym same)
        (image_still d.config.master n.id (bare n) (now.text n.id) opening (memory.images n.id)
        (ap (λ (t : Text). t.opening) (new_there i.texts n.id (bare n))) (image_here m.images n.id opening)
        (image_bare d.config.master n.id (bare n)))
  ]

  no_image : d.failed ≡ [] → (s : ℕ) → now.images s ≡ []
  no_image working s = elim (cases_eq s n.id) as (λ _. now.images s ≡ []) [
    | inl same ↦ ap now.images same ∙ new_none i.texts n.id (bare n)
    | inr other ↦ new_images i.texts n.id (bare n) s other ∙ i.whole.one working s
  ]

  repaired : AreRepaired memory now
  repaired s es k f image at l = elim (cases_eq s n.id) as (λ _. IsAmong f es) [
    | inl same ↦ absurd (subst (λ (l : List (List Entry)). IsAmong es l)
        (ap now.images same ∙ new_none i.texts n.id (bare n)) image)
    | inr other ↦ i.repaired s es k f
        (subst (λ (l : List (List Entry)). IsAmong es l) (new_images i.texts n.id (bare n) s other) image) at
        (subst (λ (l : List Entry). IsAmong f l) (image_there m.images n.id opening s other) l)
  ]

  begun : IsLoading e memory p
  begun = record {
    texts = now;
    held = rolling_is_held d i.texts p n mode i.held roll;
    begins = i.begins;
    numbers = i.numbers;
    stands = stands;
    new = λ x is. subst (λ (y : Start). BasesStand now y d.opening) (new_is x is) new_stands;
    rolling = λ x is. ap (λ (y : Start). y.others) (sym (new_is x is));
    empty = i.empty;
    blank = i.blank;
    real = λ is. absurd (elim is as (λ _. ⊥) [ inl calm ↦ not_calm calm | inr repairs ↦ not_repairs repairs ]);
    only = only;
    tracked = more_tracked log new more m.pass (none_survive d m p i) m.index contents i.tracked;
    around = more_around log new more m.pass (none_survive d m p i) contents d.opening.safe d.next e.next i.around
        (omega arith)
        (λ s c. elim (either_id s c) as (λ _. IsAmong s (log_ids d m) ⊎ (s < e.next)) [
          | inl l ↦ inl l
          | inr same ↦ inr (omega arith)
        ]);
    recorded = λ x is. ap (λ (y : Start). y.safe) (sym (new_is x is)) ∙ safe_is;
    repairs = λ is. absurd (not_repairs is);
    images = images;
    repaired = repaired;
    whole = record { one = no_image; failed = λ fails. i.whole.failed (was_failing fails) };
    idle = record { pass = i.idle.pass; rest = i.idle.rest; commits = refl; waiting = i.idle.waiting };
  }

pub loading_roll_keeps : LoadingRollKeeps
loading_roll_keeps d m p mode i may = (
  begun d m p mode i may,
  λ knows. knows_log d (rolling d (next_start d) mode) m (rolled d m (next_start d) false) p p i refl
      (rolling_known d i.texts p (next_start d) mode i.held knows.log
      (ordinary_is_roll d i.texts p mode i.held may)),
)

-- ---- a roll ends

module _ (d : FailData) (m : FailMemory) (p : Shown) (n : Start) (mode : Mode) (i : IsLoading d m p)
    (knows : Knows d m p) (ends : EndsRoll d n mode) where
  abbrev then_master : FailData
  then_master = ended d n mode

  old_new : new_of d.mode ≡ Some n
  old_new = elim ends.may as (λ _. new_of d.mode ≡ Some n) [
    | inl calm ↦ ap new_of calm.0
    | inr fails ↦ ap new_of fails.0
  ]

  last_none : new_of mode ≡ None
  last_none = elim ends.may as (λ _. new_of mode ≡ None) [
    | inl calm ↦ ap new_of calm.1
    | inr fails ↦ ap new_of fails.1
  ]

  never_new : (x : Start) → new_of mode ≡ Some x → ⊥
  never_new x is = let never : None ≡ Some x = sym last_none ∙ is in cc

  real : n.id ≡ 0 → ⊥
  real none = let newer = i.held.logged.newer n (inl old_new) in omega arith

  others_are : n.others ≡ ids_now d.head.start
  others_are = i.rolling n old_new

  to_last : (s : ℕ) → IsAmong s (log_ids d m) → IsAmong s (log_ids then_master m)
  to_last s c = elim (ids_out d m s c) as (λ _. IsAmong s (log_ids then_master m)) [
    | inl l ↦ in_digest then_master m s
        (now_others n s (i.held.logged.new n (inl old_new)).below (subst (IsAmong s) (sym others_are) l))
    | inr (inl l) ↦ in_digest then_master m s
        (subst (λ (x : ℕ). IsAmong x (ids_now n)) (new_one (new_of d.mode) n s old_new l) (now_own n real))
    | inr (inr l) ↦ in_survivors then_master m s l
  ]

  from_last : (s : ℕ) → IsAmong s (log_ids then_master m) → IsAmong s (log_ids d m)
  from_last s c = elim (ids_out then_master m s c) as (λ _. IsAmong s (log_ids d m)) [
    | inl l ↦ elim (among_push s n.others n.id (now_out n s l).0) as (λ _. IsAmong s (log_ids d m)) [
      | inl old ↦ in_digest d m s (subst (IsAmong s) others_are old)
      | inr is ↦ subst (λ (x : ℕ). IsAmong x (log_ids d m)) is (new_in d m n old_new)
    ]
    | inr (inl l) ↦ absurd (subst (λ (x : Option Start). IsAmong s (new_ids x)) last_none l)
    | inr (inr l) ↦ in_survivors d m s l
  ]

  abbrev old_log : LogSet
  old_log = log_set_of d m i.texts

  abbrev last_log : LogSet
  last_log = log_set_of then_master m i.texts

  last_more : IsMore old_log last_log
  last_more = record {
    counted = to_last;
    image = λ s c. refl;
    text = λ s c. refl;
    blank = λ s c. inl (from_last s c);
  }

  done : IsLoading then_master m p
  done = record {
    texts = i.texts;
    held = ending_is_held d i.texts p n mode i.held knows.log ends;
    begins = i.begins;
    numbers = λ u never. absurd never;
    stands = λ _ base at. subst (λ (bag : List Entry). Represents n.safe bag d.opening) (sym (append-nil base))
        (i.new n old_new base at);
    new = λ x is. absurd (never_new x is);
    rolling = λ x is. absurd (never_new x is);
    empty = λ none. absurd (real none);
    blank = λ none. absurd (real none);
    real = λ _. real;
    only = λ k s f none l at. i.only k s f none (was_in old_log last_log last_more s f k at l) at;
    tracked = more_tracked old_log last_log last_more m.pass (none_survive d m p i) m.index d.opening.contents
        i.tracked;
    around = more_around old_log last_log last_more m.pass (none_survive d m p i) d.opening.contents d.opening.safe
        d.next d.next i.around (omega arith) (λ s c. inl (from_last s c));
    recorded = λ x is. absurd (never_new x is);
    repairs = λ _. let same = i.recorded n old_new in omega arith;
    images = λ s c. i.images s (from_last s c);
    repaired = i.repaired;
    whole = record {
      one = i.whole.one;
      failed = λ fails. elim ends.may as (λ _. d.failed ≡ [] → ⊥) [
        | inl calm ↦ absurd (let never : false ≡ true = sym (ap is_failing calm.1) ∙ fails in cc)
        | inr closes ↦ i.whole.failed (ap is_failing closes.0)
      ];
    };
    idle = i.idle;
  }

pub loading_end_keeps : LoadingEndKeeps
loading_end_keeps d m p n mode i knows ends = (
  done d m p n mode i knows ends,
  knows_log d (ended d n mode) m m p p i refl (ending_known d i.texts p n mode i.held knows.log ends),
)
