-- A roll that begins leaves the log intact, and so does a failover that begins to open its new head.
use Rattle.std.proofs.Common.{◌≡◌, ℕ, ◌<◌, ◌≤◌, ◌⊎◌, inl, inr, Bool, true, false, List, [], Some, refl, sym, ap, subst}
use Rattle.std.proofs.Common.{◌∙◌, arith}
use Rattle.std.specs.Prelude.{Option, None, filter}
use Rattle.std.proofs.lemmas.Bool.{cases_eq}
use Rattle.std.proofs.lemmas.Option.{same_Some}
use Rattle.entry.specs.declared.key.Key.{Key}
use Rattle.entry.specs.declared.entry.Entry.{Entry}
use Rattle.entry.specs.Bag.{IsAmong}
use Rattle.entry.specs.Meaning.{IsOfKey}
use Rattle.entry.specs.Text.{is_data}
use Rattle.log_bytes.specs.log_laws.Heads.{Start, start_entries}
use Rattle.log_bytes.specs.log_laws.Ids.{has}
use Rattle.log_bytes.proofs.log_laws.Segments.{no_keys}
use Rattle.log_bytes.specs.log_laws.Memory.{new_ids, LogSet}
use Rattle.log_bytes.proofs.log_laws.ImageLists.{among_at, image_here, image_there}
use Rattle.log_bytes.proofs.log_laws.LogSetChanges.{IsMore, more_tracked, more_passing, more_around}
use Rattle.log_bytes.specs.log_laws.Text.{Text}
use Rattle.log_bytes.specs.log_laws.Shown.{Shown}
use Rattle.log_bytes.specs.log_laws.Data.{bare, Mode, Calm, Rolls, Opens, Repairs, FailData, HasTaken, new_of}
use Rattle.log_bytes.specs.log_laws.Data.{is_failing}
use Rattle.log_bytes.specs.log_laws.Data.{state_of}
use Rattle.log_bytes.specs.log_laws.Log.{Texts, BasesStand, IsKept}
use Rattle.log_bytes.specs.log_laws.Steps.{rolling, texts_rolling, IsRoll, next_start}
use Rattle.log_bytes.proofs.log_laws.Rolling.{rolling_is_held, rolling_is_standing, mode_new}
use Rattle.log_bytes.proofs.log_laws.Rolling as rolls
use Rattle.log_bytes.proofs.log_laws.Texts.{new_there, new_none, new_other, new_images}
use Rattle.log_bytes.proofs.log_laws.Turning.{ordinary_is_roll, ordinary_stands}
use Rattle.log_memory.specs.Covered.{map_of}
use Rattle.log_memory.specs.Intact.{IsCommitting, AreRepaired, AreUnrepaired, IsRollOf, IsIntact, IsIntactWith}
use Rattle.log_memory.specs.Laws.{RollKeeps}
use Rattle.log_memory.specs.Memory.{FailMemory, entries_in, log_ids, log_set_of, AreImages}
use Rattle.log_memory.specs.Steps.{rolled}
use Rattle.log_memory.proofs.Ids.{ids_out, in_digest, in_survivors, new_one}
use Rattle.log_memory.proofs.Openings.{IsImage, image_still}
use Rattle.log_memory.proofs.Pasts.{rolling_past}
use Rattle.log_memory.proofs.Sealed.{still_sealed}

module _ (d : FailData) (m : FailMemory) (p : Shown) (i : IsIntact d m p) (n : Start) (mode : Mode) (commits : Bool)
    (roll : IsRoll d i.log.texts p n mode) (stands : BasesStand i.log.texts n (state_of d))
    (which : IsRollOf d (rolled d m n commits) n)
    (safe : (state_of d).safe ≤ n.safe) (committed : commits ≡ true → IsCommitting d m i.log.texts) where
  abbrev e : FailData
  e = rolling d n mode

  abbrev memory : FailMemory
  memory = rolled d m n commits

  abbrev opening : List Entry
  opening = start_entries d.config.master n

  abbrev old : Texts
  old = i.log.texts

  abbrev now : Texts
  now = texts_rolling old n

  abbrev log : LogSet
  log = log_set_of d m old

  abbrev new : LogSet
  new = log_set_of e memory now

  abbrev then_log : IsKept e p
  then_log = record {
    texts = now;
    held = rolling_is_held d old p n mode i.log.held roll;
    standing = rolling_is_standing d old p n mode i.log.held i.log.standing roll stands;
  }

  is_new : new_of mode ≡ Some n
  is_new = mode_new d old p n mode i.log.held.logged i.log.held.mirrored roll

  no_new : new_of d.mode ≡ None
  no_new = elim roll.may as (λ _. new_of d.mode ≡ None) [
    | inl calm ↦ ap new_of calm.0
    | inr mends ↦ ap new_of mends.0
  ]

  older : (s : ℕ) → IsAmong s (log_ids d m) → s ≡ n.id → ⊥
  older s c same = let lt = i.around.below s c in let next = roll.next in omega arith

  either_id : (s : ℕ) → IsAmong s (log_ids e memory) → IsAmong s (log_ids d m) ⊎ (s ≡ n.id)
  either_id s c = elim (ids_out e memory s c) as (λ _. IsAmong s (log_ids d m) ⊎ (s ≡ n.id)) [
    | inl l ↦ inl (in_digest d m s l)
    | inr (inl l) ↦ inr (sym (new_one (new_of mode) n s is_new l))
    | inr (inr l) ↦ inl (in_survivors d m s l)
  ]

  still_id : (s : ℕ) → IsAmong s (log_ids d m) → IsAmong s (log_ids e memory)
  still_id s c = elim (ids_out d m s c) as (λ _. IsAmong s (log_ids e memory)) [
    | inl l ↦ in_digest e memory s l
    | inr (inl l) ↦ absurd (subst (λ (o : Option Start). IsAmong s (new_ids o)) no_new l)
    | inr (inr l) ↦ in_survivors e memory s l
  ]

  new_image : (s : ℕ) → s ≡ n.id → memory.images s ≡ opening
  new_image s same = ap memory.images same ∙ image_here m.images n.id opening

  no_text : (s : ℕ) → s ≡ n.id → entries_in now s ≡ []
  no_text s same = ap (entries_in now) same ∙ ap (λ (t : Text). t.entries) (new_there old n.id (bare n))

  more : IsMore log new
  more = record {
    counted = still_id;
    image = λ s c. image_there m.images n.id opening s (older s c);
    text = λ s c. ap (λ (t : Text). t.entries) (new_other old n.id (bare n) s (older s c));
    blank = λ s c. elim (either_id s c) as (λ _. IsAmong s (log_ids d m)
        ⊎ ((f : Entry) (k : Key) → IsOfKey k f → IsAmong f (new.image s) ⊎ IsAmong f (new.text s) → ⊥)) [
          | inl l ↦ inl l
          | inr same ↦ inr (λ f k at l. elim l as (λ _. ⊥) [
            | inl a ↦ no_keys d.config.master n f k (subst (λ (es : List Entry). IsAmong f es) (new_image s same) a) at
            | inr a ↦ subst (λ (es : List Entry). IsAmong f es) (no_text s same) a
          ])
        ];
  }

  repaired : AreRepaired memory now
  repaired s xs k f sealed at l = elim (cases_eq s n.id) as (λ _. IsAmong f xs) [
    | inl same ↦ absurd (subst (λ (ys : List (List Entry)). IsAmong xs ys)
        (ap now.images same ∙ new_none old n.id (bare n)) sealed)
    | inr other ↦ i.repaired s xs k f
        (subst (λ (ys : List (List Entry)). IsAmong xs ys) (new_images old n.id (bare n) s other) sealed) at
        (subst (λ (es : List Entry). IsAmong f es) (image_there m.images n.id opening s other) l)
  ]

  -- ---- images

  -- the image begins as its text does
  abbrev IsBegun : ℕ → Type 0
  IsBegun z = IsImage d.config.master z (now.text z) (memory.images z)

  images : AreImages e memory now
  images s c = elim (either_id s c) as (λ _. IsBegun s) [
    | inl l ↦ image_still d.config.master s (old.text s) (now.text s) (m.images s) (memory.images s)
        (ap (λ (t : Text). t.opening) (new_other old n.id (bare n) s (older s l)))
        (image_there m.images n.id opening s (older s l)) (i.images s l)
    | inr same ↦ subst (λ (z : ℕ). IsBegun z) (sym same)
        (image_still d.config.master n.id (bare n) (now.text n.id) opening (memory.images n.id)
        (ap (λ (t : Text). t.opening) (new_there old n.id (bare n))) (new_image n.id refl) refl)
  ]

  whole : AreUnrepaired e now
  whole = record {
    one = λ none s. elim (cases_eq s n.id) as (λ _. now.images s ≡ []) [
      | inl same ↦ ap now.images same ∙ new_none old n.id (bare n)
      | inr other ↦ new_images old n.id (bare n) s other ∙ i.whole.one none s
    ];
    failed = λ fails none. elim roll.may as (λ _. ⊥) [
      | inl calm ↦ (let never : false ≡ true = sym (ap is_failing calm.1) ∙ fails in cc)
      | inr mends ↦ i.whole.failed (ap is_failing mends.0) none
    ];
  }

  -- ---- survivors

  survivor_older : (s : ℕ) → IsAmong s m.pass.survivors → s ≡ n.id → ⊥
  survivor_older s c = older s (in_survivors d m s c)

  took_same : (s b : ℕ) → IsAmong s m.pass.survivors → HasTaken e s b → HasTaken d s b
  took_same s b c took =
      sym (ap (λ (l : List ℕ). has l b) (rolls.took_other d old p n mode i.log.held.logged i.log.held.mirrored roll s
      (survivor_older s c))) ∙ took

  pub begun : IsIntactWith i.past e memory p
  begun = (
    record {
      log = then_log;
      tracked = more_tracked log new more m.pass i.passing.survivors_count m.index (map_of d) i.tracked;
      passing = more_passing log new more m.pass i.passing.survivors_count m.index m.rest i.passing
          (λ q t victim at named. elim (either_id t.segment named) [
            | inl l ↦ l
            | inr same ↦ (
                let counts = i.passing.victims_count q.segment victim in
                let lt = i.around.named_below q.segment t counts (among_at _ _ _ at) in
                let next = roll.next in absurd (omega arith))
          ]);
      around = more_around log new more m.pass i.passing.survivors_count (map_of d) (state_of d).safe d.next e.next
          i.around (omega arith)
          (λ s c. elim (either_id s c) as (λ _. IsAmong s (log_ids d m) ⊎ (s < e.next)) [
            | inl l ↦ inl l
            | inr same ↦ (let next = roll.next in inr (omega arith))
          ]);
      images = images;
      repaired = repaired;
      whole = whole;
      chosen = record {
        victims = i.chosen.victims;
        some = i.chosen.some;
        outside = i.chosen.outside;
        not_new = λ s x survivor is same.
            survivor_older s survivor (sym same ∙ ap (λ (y : Start). y.id) (sym (same_Some n x (sym is_new ∙ is))));
      };
      sealing = still_sealed d e m old now p p memory.images m.index commits i.sealing
          (λ s c. image_there m.images n.id opening s (survivor_older s c))
          (λ s c. new_other old n.id (bare n) s (survivor_older s c))
          (λ s c. new_images old n.id (bare n) s (survivor_older s c)) (λ b s c. refl) took_same;
      committed = λ c.
          let was = committed c in
          record {
            real = was.real;
            done = was.done;
            images = λ s survivor.
                ap (λ (t : Text). t.entries) (new_other old n.id (bare n) s (survivor_older s survivor))
                ∙ was.images s survivor
                ∙ sym (ap (filter is_data) (image_there m.images n.id opening s (survivor_older s survivor)));
          };
      rolling = λ x is. subst (λ (y : Start). IsRollOf d memory y) (same_Some n x (sym is_new ∙ is)) which;
      waiting = record {
        out = λ w at c. elim (either_id w.segment c) as (λ _. ⊥) [
          | inl l ↦ i.waiting.out w at l
          | inr same ↦ (let lt = i.waiting.below w at in let next = roll.next in omega arith)
        ];
        below = λ w at. let lt = i.waiting.below w at in omega arith;
        real = i.waiting.real;
      };
      recorded = λ x is.
          let same = ap (λ (y : Start). y.safe) (same_Some n x (sym is_new ∙ is)) in omega arith;
      repairs = λ is. absurd (elim roll.may as (λ _. ⊥) [
        | inl calm ↦ (let never : Rolls n ≡ Repairs = sym calm.1 ∙ is in cc)
        | inr mends ↦ (let never : Opens n ≡ Repairs = sym mends.1 ∙ is in cc)
      ]);
      real = λ is. absurd (elim roll.may as (λ _. ⊥) [
        | inl calm ↦ elim is as (λ _. ⊥) [
          | inl at ↦ (let never : Rolls n ≡ Calm = sym calm.1 ∙ at in cc)
          | inr at ↦ (let never : Rolls n ≡ Repairs = sym calm.1 ∙ at in cc)
        ]
        | inr mends ↦ elim is as (λ _. ⊥) [
          | inl at ↦ (let never : Opens n ≡ Calm = sym mends.1 ∙ at in cc)
          | inr at ↦ (let never : Opens n ≡ Repairs = sym mends.1 ∙ at in cc)
        ]
      ]);
      past = i.past;
      before = rolling_past d p n mode i.log i.past roll i.before;
    },
    refl,
  )

pub roll_keeps : RollKeeps
roll_keeps d m p mode i may =
    begun d m p i (next_start d) mode false (ordinary_is_roll d i.log.texts p mode i.log.held may)
    (ordinary_stands d p mode i.log may) (λ c. refl, λ c. absurd (cc)) (omega arith) (λ never. absurd (cc))
