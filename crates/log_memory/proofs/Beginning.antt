-- A pass that begins leaves the log intact: it is opened, and then its survivors take their ids one after the other.
use Rattle.std.proofs.Common.{◌≡◌, ℕ, zero, suc, ◌<◌, ◌⊎◌, inl, inr, true, false, List, [], ◌∷◌, refl, sym, ap, subst}
use Rattle.std.proofs.Common.{◌∙◌, Some, arith}
use Rattle.std.specs.Prelude.{None, IsSome, ◌==◌, filter}
use Rattle.std.proofs.lemmas.Bool.{cases_eq}
use Rattle.std.proofs.lemmas.Bool.Decides.{nat_tests}
use Rattle.entry.specs.declared.key.Key.{Key}
use Rattle.entry.specs.declared.entry.Entry.{Entry}
use Rattle.entry.specs.declared.entry.Entry.TheVariants.{Tombstone}
use Rattle.entry.specs.declared.entry.Object.{Object as ObjectValue}
use Rattle.entry.specs.Bag.{IsAmong}
use Rattle.entry.specs.Meaning.{IsOfKey, object_at}
use Rattle.entry.specs.Text.{is_data}
use Rattle.entry.proofs.BagLemmas.{among_left, among_push}
use Rattle.log_bytes.specs.log_laws.Ids.{has}
use Rattle.log_bytes.proofs.log_laws.IdLists.{below_at}
use Rattle.log_bytes.specs.log_laws.Intact.{survivor_entries, IsPassOf}
use Rattle.log_bytes.specs.log_laws.Memory.{Images, LogSet, Pass, no_pass}
use Rattle.log_bytes.specs.log_laws.Tracked.{IsCopied, IsTracked, IsPassing, IsAround}
use Rattle.log_bytes.proofs.log_laws.KeptEntries.{places_all}
use Rattle.log_bytes.proofs.log_laws.ImageLists.{among_at, image_here, image_there}
use Rattle.log_bytes.proofs.log_laws.LogSetChanges.{IsMore, more_tracked, more_passing, more_around, begun_tracked}
use Rattle.log_bytes.proofs.log_laws.TrackedBags.{buried_again, found_at}
use Rattle.log_bytes.specs.log_laws.Text.{Text, Replica}
use Rattle.log_bytes.specs.log_laws.Shown.{Shown}
use Rattle.log_bytes.specs.log_laws.Data.{FailData, HasTaken, new_of, state_of}
use Rattle.log_bytes.specs.log_laws.Log.{Texts}
use Rattle.log_bytes.specs.log_laws.Steps.{id_taken, empty_survivor, texts_taken}
use Rattle.log_bytes.proofs.log_laws.NewIds.{id_taken_is_held, id_taken_is_standing}
use Rattle.log_bytes.proofs.log_laws.Replicas.{next_of}
use Rattle.log_bytes.proofs.log_laws.Texts.{new_there, new_none, new_other, new_images}
use Rattle.log_memory.specs.Covered.{map_of}
use Rattle.log_memory.specs.Intact.{IsSealed, AreSealed, AreRepaired, IsIntact, IsIntactWith}
use Rattle.log_memory.specs.Laws.{BeginKeeps}
use Rattle.log_memory.specs.Memory.{FailMemory, entries_in, log_ids, log_set_of, AreImages}
use Rattle.log_memory.specs.Steps.{ids_taken, pass_opened, survivor_added, pass_begun, MayBeginClean}
use Rattle.log_memory.proofs.Ids.{ids_out, in_digest, in_new, in_survivors, now_others, new_in}
use Rattle.log_memory.proofs.Openings.{IsImage, no_keys, image_bare, image_still}
use Rattle.log_memory.proofs.Pasts.{id_taken_past}

-- ---- a pass is opened

module _ (d : FailData) (m : FailMemory) (p : Shown) (victims : List ℕ) (i : IsIntact d m p)
    (may : MayBeginClean d m victims) where
  abbrev memory : FailMemory
  memory = pass_opened m victims

  -- the log set is the same
  same_ids : log_ids d m ≡ log_ids d memory
  same_ids = ap (λ (x : Pass). log_ids d (record m { pass = x })) may.none

  abbrev log : LogSet
  log = log_set_of d memory i.log.texts

  same_log : log_set_of d m i.log.texts ≡ log
  same_log = ap (λ (ids : List ℕ). record { ids = ids; image = m.images; text = entries_in i.log.texts }) same_ids

  tracked_none : IsTracked log no_pass m.index (map_of d)
  tracked_none =
      subst (λ (l : LogSet). IsTracked l no_pass m.index (map_of d)) same_log
      (subst (λ (x : Pass). IsTracked (log_set_of d m i.log.texts) x m.index (map_of d)) may.none i.tracked)

  around_none : IsAround log no_pass (map_of d) (state_of d).safe d.next
  around_none =
      subst (λ (l : LogSet). IsAround l no_pass (map_of d) (state_of d).safe d.next) same_log
      (subst (λ (x : Pass). IsAround (log_set_of d m i.log.texts) x (map_of d) (state_of d).safe d.next)
      may.none i.around)

  passing : IsPassing (log_ids d memory) m.images memory.pass m.index memory.rest
  passing = record {
    victims_count = λ s c. in_digest d memory s
        (now_others d.head.start s i.log.held.logged.head.below (may.older s c));
    survivors_count = λ s never. absurd never;
    disjoint = λ s never victim. never;
    copies = λ s f k never l at. absurd never;
    live = λ k x is victim.
        let f = found_at log no_pass m.index (map_of d) tracked_none k x is in
        places_all victims m.images x (object_at k f.has) victim f.stands;
    carried = λ x t victim at named. inl (places_all victims m.images x (Tombstone t) victim at);
  }

  pub opened : IsIntactWith i.past d memory p
  opened =
      let around = around_none in (
        record {
          log = i.log;
          tracked = begun_tracked log m.index (map_of d) tracked_none memory.pass;
          passing = passing;
          around = record {
            below = around.below;
            named_below = around.named_below;
            versions = around.versions;
            texted = around.texted;
          };
          images = λ s c. i.images s (subst (λ (ids : List ℕ). IsAmong s ids) (sym same_ids) c);
          repaired = i.repaired;
          whole = i.whole;
          chosen = record {
            victims = may.older;
            some = λ s never. absurd never;
            outside = λ s never c. never;
            not_new = λ s n never is same. never;
          };
          sealing = record {
            bare = λ s never. absurd never;
            one = λ s never. absurd never;
            each = λ s b r never. absurd never;
            held = λ s b never. absurd never;
          };
          rolling = λ n is. (
            (i.rolling n is).0,
            λ c. let never : true ≡ false = sym c ∙ may.no_commit in absurd (cc),
          );
          committed = λ c. let never : true ≡ false = sym c ∙ may.no_commit in absurd (cc);
          waiting = record {
            out = λ w at c. i.waiting.out w at (subst (λ (ids : List ℕ). IsAmong w.segment ids) (sym same_ids) c);
            below = i.waiting.below;
            real = i.waiting.real;
          };
          recorded = i.recorded;
          repairs = i.repairs;
          real = i.real;
          past = i.past;
          before = i.before;
        },
        refl,
      )

-- ---- one survivor more

module _ (d : FailData) (m : FailMemory) (p : Shown) (i : IsIntact d m p) (some : m.pass.victims ≡ [] → ⊥)
    (no_commit : m.commits ≡ false) where
  abbrev e : FailData
  e = id_taken d

  abbrev more_memory : FailMemory
  more_memory = survivor_added d m

  abbrev old : Texts
  old = i.log.texts

  abbrev now : Texts
  now = texts_taken d old

  abbrev was : LogSet
  was = log_set_of d m old

  abbrev new : LogSet
  new = log_set_of e more_memory now

  older : (s : ℕ) → IsAmong s (log_ids d m) → s ≡ d.next → ⊥
  older s c same = let lt = i.around.below s c in omega arith

  -- the survivors were there, or it is the new one
  either_survivor : (s : ℕ) → IsAmong s more_memory.pass.survivors → IsAmong s m.pass.survivors ⊎ (d.next ≡ s)
  either_survivor s c = among_push s m.pass.survivors d.next c

  still_survivor : (s : ℕ) → IsAmong s m.pass.survivors → IsAmong s more_memory.pass.survivors
  still_survivor s c = among_left s m.pass.survivors (d.next ∷ []) c

  survivor_older : (s : ℕ) → IsAmong s m.pass.survivors → s ≡ d.next → ⊥
  survivor_older s c = older s (in_survivors d m s c)

  either_id : (s : ℕ) → IsAmong s (log_ids e more_memory) → IsAmong s (log_ids d m) ⊎ (s ≡ d.next)
  either_id s c = elim (ids_out e more_memory s c) as (λ _. IsAmong s (log_ids d m) ⊎ (s ≡ d.next)) [
    | inl l ↦ inl (in_digest d m s l)
    | inr (inl l) ↦ inl (in_new d m s l)
    | inr (inr l) ↦ elim (either_survivor s l) as (λ _. IsAmong s (log_ids d m) ⊎ (s ≡ d.next)) [
      | inl before ↦ inl (in_survivors d m s before)
      | inr same ↦ inr (sym same)
    ]
  ]

  still_id : (s : ℕ) → IsAmong s (log_ids d m) → IsAmong s (log_ids e more_memory)
  still_id s c = elim (ids_out d m s c) as (λ _. IsAmong s (log_ids e more_memory)) [
    | inl l ↦ in_digest e more_memory s l
    | inr (inl l) ↦ in_new e more_memory s l
    | inr (inr l) ↦ in_survivors e more_memory s (still_survivor s l)
  ]

  -- a header alone
  abbrev header : List Entry
  header = survivor_entries d.config.master d.next

  new_image : (s : ℕ) → s ≡ d.next → more_memory.images s ≡ header
  new_image s same = ap more_memory.images same ∙ image_here m.images d.next header

  no_entry : (s : ℕ) (f : Entry) (k : Key) → s ≡ d.next → IsAmong f (more_memory.images s) → IsOfKey k f → ⊥
  no_entry s f k same l at = no_keys d.config.master d.next None f k
      (subst (λ (es : List Entry). IsAmong f es) (new_image s same) l) at

  no_text : (s : ℕ) → s ≡ d.next → now.text s ≡ empty_survivor
  no_text s same = ap now.text same ∙ new_there old d.next empty_survivor

  image_same : (s : ℕ) → (s ≡ d.next → ⊥) → more_memory.images s ≡ m.images s
  image_same s other = image_there m.images d.next header s other

  text_same : (s : ℕ) → (s ≡ d.next → ⊥) → now.text s ≡ old.text s
  text_same s other = new_other old d.next empty_survivor s other

  more : IsMore was new
  more = record {
    counted = still_id;
    image = λ s c. image_same s (older s c);
    text = λ s c. ap (λ (t : Text). t.entries) (text_same s (older s c));
    blank = λ s c. elim (either_id s c) as (λ _. IsAmong s (log_ids d m)
        ⊎ ((f : Entry) (k : Key) → IsOfKey k f → IsAmong f (new.image s) ⊎ IsAmong f (new.text s) → ⊥)) [
          | inl l ↦ inl l
          | inr same ↦ inr (λ f k at l. elim l as (λ _. ⊥) [
            | inl a ↦ no_entry s f k same a at
            | inr a ↦ subst (λ (es : List Entry). IsAmong f es) (ap (λ (t : Text). t.entries) (no_text s same)) a
          ])
        ];
  }

  -- nothing is held of an id that no segment had
  nothing : (b s : ℕ) (r : Replica) → d.next ≡ s → p.holds b s ≡ Some r → ⊥
  nothing b s r at there =
      let lt = next_of d old i.log.held.logged p.least b s r (i.log.held.mirrored.each b s r there) in omega arith

  took_other : (s b : ℕ) → (s ≡ d.next → ⊥) → HasTaken e s b → HasTaken d s b
  took_other s b other took =
      let t : (s == d.next) ≡ false = grind (arith, nat_tests) in
      let same : e.took s ≡ d.took s = rw t refl in sym (ap (λ (l : List ℕ). has l b) same) ∙ took

  took_none : (s b : ℕ) → d.next ≡ s → HasTaken e s b → ⊥
  took_none s b at took =
      let t : (s == d.next) ≡ true = grind (arith, nat_tests) in
      let none : e.took s ≡ [] = rw t refl in
      let never : false ≡ true = sym (ap (λ (l : List ℕ). has l b) none) ∙ took in cc

  -- ---- images and index

  copied_then : (image : Images) (s z : ℕ) (o : ObjectValue) → IsCopied image m.pass s z o
      → IsCopied image more_memory.pass s z o
  copied_then image s z o c =
      record { victim = c.victim; survivor = still_survivor z c.survivor; copy = c.copy }

  tracked_more : IsTracked new m.pass m.index (map_of d)
  tracked_more = more_tracked was new more m.pass i.passing.survivors_count m.index (map_of d) i.tracked

  tracked_then : IsTracked new more_memory.pass m.index (map_of d)
  tracked_then = record {
    clean = tracked_more.clean;
    highest = tracked_more.highest;
    found = tracked_more.found;
    unindexed = tracked_more.unindexed;
    lies = λ k x q h z s o l same. elim (tracked_more.lies k x q h z s o l same) [
      | inl at ↦ inl at
      | inr c ↦ inr (copied_then new.image s q.segment o c)
    ];
    buried = λ s o l dead.
        let b = tracked_more.buried s o l dead in
        buried_again new.ids new.ids new.image new.image m.pass more_memory.pass s o b b.stands
        (elim b.names [ inl at ↦ inl at | inr c ↦ inr (copied_then new.image s b.grave.segment o c) ]);
  }

  -- ---- the pass

  passing_more : IsPassing new.ids new.image m.pass m.index m.rest
  passing_more = more_passing was new more m.pass i.passing.survivors_count m.index m.rest i.passing
      (λ q t victim at named. elim (either_id t.segment named) [
        | inl l ↦ l
        | inr same ↦ (
            let counts = i.passing.victims_count q.segment victim in
            let lt = i.around.named_below q.segment t counts (among_at _ _ _ at) in absurd (omega arith))
      ])

  passing_then : IsPassing (log_ids e more_memory) more_memory.images more_memory.pass m.index more_memory.rest
  passing_then = record {
    victims_count = passing_more.victims_count;
    survivors_count = λ s c. in_survivors e more_memory s c;
    disjoint = λ s c victim. elim (either_survivor s c) as (λ _. ⊥) [
      | inl before ↦ i.passing.disjoint s before victim
      | inr same ↦ older s (i.passing.victims_count s victim) (sym same)
    ];
    copies = λ s f k c l at. elim (either_survivor s c) [
      | inl before ↦ passing_more.copies s f k before l at
      | inr same ↦ absurd (no_entry s f k (sym same) l at)
    ];
    live = i.passing.live;
    carried = λ x t victim at named. elim (passing_more.carried x t victim at named) [
      | inl l ↦ inl l
      | inr c ↦ inr (c.0, record { counts = still_survivor c.0 c.1.counts; among = c.1.among })
    ];
  }

  around_more : IsAround new m.pass (map_of d) (state_of d).safe (suc d.next)
  around_more = more_around was new more m.pass i.passing.survivors_count (map_of d) (state_of d).safe d.next
      (suc d.next) i.around (omega arith)
      (λ s c. elim (either_id s c) as (λ _. IsAmong s (log_ids d m) ⊎ (s < suc d.next)) [
        | inl l ↦ inl l
        | inr same ↦ inr (omega arith)
      ])

  chosen : IsPassOf d.head.start (new_of d.mode) more_memory.pass
  chosen = record {
    victims = i.chosen.victims;
    some = λ s survivor. some;
    outside = λ s survivor c. elim (either_survivor s survivor) as (λ _. ⊥) [
      | inl before ↦ i.chosen.outside s before c
      | inr same ↦ elim (among_push s d.head.start.others d.head.start.id c) as (λ _. ⊥) [
        | inl l ↦ (
            let lt = below_at d.head.start.id d.head.start.others s i.log.held.logged.head.below l in
            let next = i.log.held.logged.head.next in omega arith)
        | inr own ↦ (let next = i.log.held.logged.head.next in omega arith)
      ]
    ];
    not_new = λ s n survivor is same. elim (either_survivor s survivor) as (λ _. ⊥) [
      | inl before ↦ i.chosen.not_new s n before is same
      | inr at ↦ older n.id (new_in d m n is) (same ∙ sym at)
    ];
  }

  sealing : AreSealed e more_memory now p
  sealing = record {
    bare = λ s survivor. elim (either_survivor s survivor) as (λ _. (now.text s).opening ≡ None) [
      | inl before ↦ ap (λ (t : Text). t.opening) (text_same s (survivor_older s before)) ∙ i.sealing.bare s before
      | inr same ↦ ap (λ (t : Text). t.opening) (no_text s (sym same))
    ];
    one = λ s survivor. elim (either_survivor s survivor) as (λ _. now.images s ≡ []) [
      | inl before ↦ new_images old d.next empty_survivor s (survivor_older s before) ∙ i.sealing.one s before
      | inr same ↦ ap now.images (sym same) ∙ new_none old d.next empty_survivor
    ];
    each = λ s b r survivor there. elim (either_survivor s survivor) as (λ _. IsSealed more_memory now s r) [
      | inl before ↦ (
          let at = i.sealing.each s b r before there in
          let text = text_same s (survivor_older s before) in
          record {
            done = at.done;
            image = ap (λ (t : Text). t.entries) text ∙ at.image
                ∙ sym (ap (filter is_data) (image_same s (survivor_older s before)));
            text = at.text ∙ sym text;
            closed = at.closed;
          })
      | inr same ↦ absurd (nothing b s r same there)
    ];
    held = λ s b survivor took. elim (either_survivor s survivor) as (λ _. IsSome (p.holds b s)) [
      | inl before ↦ i.sealing.held s b before (took_other s b (survivor_older s before) took)
      | inr same ↦ absurd (took_none s b same took)
    ];
  }

  images : AreImages e more_memory now
  images s c = elim (either_id s c) as (λ _. IsImage d.config.master s (now.text s) (more_memory.images s)) [
    | inl l ↦ image_still d.config.master s (old.text s) (now.text s) (m.images s) (more_memory.images s)
        (ap (λ (t : Text). t.opening) (text_same s (older s l))) (image_same s (older s l)) (i.images s l)
    | inr same ↦ subst (λ (y : ℕ). IsImage d.config.master y (now.text y) (more_memory.images y)) (sym same)
        (image_still d.config.master d.next empty_survivor (now.text d.next) header (more_memory.images d.next)
        (ap (λ (t : Text). t.opening) (no_text d.next refl)) (new_image d.next refl)
        (image_bare d.config.master d.next empty_survivor))
  ]

  whole : d.failed ≡ [] → (s : ℕ) → now.images s ≡ []
  whole none s = elim (cases_eq s d.next) as (λ _. now.images s ≡ []) [
    | inl same ↦ ap now.images same ∙ new_none old d.next empty_survivor
    | inr other ↦ new_images old d.next empty_survivor s other ∙ i.whole.one none s
  ]

  repaired : AreRepaired more_memory now
  repaired s xs k f at_one of l = elim (cases_eq s d.next) as (λ _. IsAmong f xs) [
    | inl same ↦ absurd (no_entry s f k same l of)
    | inr other ↦ i.repaired s xs k f
        (subst (λ (ys : List (List Entry)). IsAmong xs ys) (new_images old d.next empty_survivor s other) at_one) of
        (subst (λ (es : List Entry). IsAmong f es) (image_same s other) l)
  ]

  pub added : IsIntactWith i.past e more_memory p
  added = (
    record {
      log = record {
        texts = now;
        held = id_taken_is_held d old p i.log.held;
        standing = id_taken_is_standing d old p i.log.held i.log.standing;
      };
      tracked = tracked_then;
      passing = passing_then;
      around = record {
        below = around_more.below;
        named_below = around_more.named_below;
        versions = around_more.versions;
        texted = λ s f k c not. around_more.texted s f k c (λ survivor. not (still_survivor s survivor));
      };
      images = images;
      repaired = repaired;
      whole = record { one = whole; failed = i.whole.failed };
      chosen = chosen;
      sealing = sealing;
      rolling = λ n is. (
        (i.rolling n is).0,
        λ c. let never : true ≡ false = sym c ∙ no_commit in absurd (cc),
      );
      committed = λ c. let never : true ≡ false = sym c ∙ no_commit in absurd (cc);
      waiting = record {
        out = λ w at c. elim (either_id w.segment c) as (λ _. ⊥) [
          | inl l ↦ i.waiting.out w at l
          | inr same ↦ (let lt = i.waiting.below w at in omega arith)
        ];
        below = λ w at. let lt = i.waiting.below w at in omega arith;
        real = i.waiting.real;
      };
      recorded = i.recorded;
      repairs = i.repairs;
      real = i.real;
      past = i.past;
      before = id_taken_past d p i.log i.past i.before;
    },
    refl,
  )

-- ---- both

begun_victims : (d : FailData) (m : FailMemory) (victims : List ℕ) (n : ℕ)
    → (pass_begun d m victims n).pass.victims ≡ victims
begun_victims d m victims zero = refl
begun_victims d m victims (suc n) = begun_victims d m victims n

begun_commits : (d : FailData) (m : FailMemory) (victims : List ℕ) (n : ℕ)
    → (pass_begun d m victims n).commits ≡ m.commits
begun_commits d m victims zero = refl
begun_commits d m victims (suc n) = begun_commits d m victims n

pub begin_keeps : BeginKeeps
begin_keeps d m p victims zero i may = opened d m p victims i may
begin_keeps d m p victims (suc n) i may =
    let first = begin_keeps d m p victims n i may in
    let more = added (ids_taken n d) (pass_begun d m victims n) p first.0
    (λ none. may.some (sym (begun_victims d m victims n) ∙ none)) (begun_commits d m victims n ∙ may.no_commit) in
    (more.0, more.1 ∙ first.1)
