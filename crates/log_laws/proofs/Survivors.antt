-- If both survive, what is left has a choice.
use Rattle.std.proofs.Common.{◌≡◌, ℕ, suc, ◌<◌, ◌≤◌, ◌⊎◌, inl, inr, Bool, true, false, cond, List, [], ◌∷◌, ◌++◌}
use Rattle.std.proofs.Common.{length, map, Some, refl, sym, ap, subst, ◌∙◌, arith}
use Rattle.std.specs.Prelude.{Option, None, IsSome, IsSomeAnd, ◌&&◌, nat_lt, not}
use Rattle.std.specs.List.{AllByRecursion}
use Rattle.std.proofs.lemmas.Bool.{cases_lt, cases_eq, cases_Bool, and_parts, and_from}
use Rattle.std.proofs.lemmas.Bool.Decides.{nat_tests}
use Rattle.entry.specs.Bag.{IsAmong}
use Rattle.entry.specs.Text.{Opening, listed_ids}
use Rattle.entry.proofs.BagLemmas.{among_left}
use Rattle.log_laws.proofs.ListedIds.{ids_listed}
use Rattle.log_laws.proofs.IdLists.{some_given, below_at}
use Rattle.log_laws.specs.Heads.{Start, digest_for}
use Rattle.log_laws.specs.Text.{Text, Replica, length_of, IsUsable}
use Rattle.log_laws.specs.Shown.{Shown, survivors, HoldsHead}
use Rattle.log_laws.specs.Choice.{Holding, IsHeld, Choice, IsHeadLeft, HeadSurvives, BothSurvive}
use Rattle.log_laws.specs.Data.{opening_for, bare_replica, FailData, IsHome, HasTaken, IsNew, failover_head_of}
use Rattle.log_laws.specs.Log.{Texts, IsStart, IsLogged, IsCopy, NewIsOpened, IsHeadReplica, HoldsCopy, IsOther}
use Rattle.log_laws.specs.Log.{IsMirrored}
use Rattle.log_laws.specs.Sound.{IsOpenedHead, IsSurvivingChoice}
use Rattle.log_laws.proofs.Lengths.{long_enough}
use Rattle.log_laws.proofs.Lists.{some_is, is_some, some_member}
use Rattle.log_laws.proofs.Replicas.{any_opening, bearing, Bearing, head_copy, next_of}
use Rattle.log_laws.proofs.Newest.{any_below, any_found, any_there, greatest_below}
use Rattle.log_laws.proofs.Choices.{held_by}
use Rattle.log_laws.proofs.States.{third_is}

-- ---- tests

abbrev opens : Option Replica → Bool
opens None = false
opens (Some r) = bears r.text.opening where
  bears : Option Opening → Bool
  bears None = false
  bears (Some o) = true

-- whether a replica of the head is on a backup that is left
abbrev is_left : Shown → (ℕ → Bool) → ℕ → ℕ → Bool
is_left p keep backups t = not (nat_lt t p.least) && any_below (λ b. keep b && opens (p.holds b t)) backups

opens_given : (o : Option Replica) → opens o ≡ true → IsSomeAnd o (λ (r : Replica). IsSome r.text.opening)
opens_given None is = absurd (cc)
opens_given (Some r) is = go r.text.opening is where
  go : (x : Option Opening)
      → opens (Some (record { text = record { opening = x; entries = [] }; is_open = true })) ≡ true → IsSome x
  go None is = absurd (cc)
  go (Some o) is = refl

opens_is : (o : Option Replica) → IsSomeAnd o (λ (r : Replica). IsSome r.text.opening) → opens o ≡ true
opens_is None is = absurd is
opens_is (Some r) is = go r.text.opening is where
  go : (x : Option Opening) → IsSome x
      → opens (Some (record { text = record { opening = x; entries = [] }; is_open = true })) ≡ true
  go None is = absurd (cc)
  go (Some o) is = refl

not_less : (t least : ℕ) → not (nat_lt t least) ≡ true → least ≤ t
not_less t least is = grind (arith, nat_tests)

less_not : (t least : ℕ) → least ≤ t → not (nat_lt t least) ≡ true
less_not t least le = let is : nat_lt t least ≡ false = grind (arith, nat_tests) in rw is refl

module _ (d : FailData) (texts : Texts) (p : Shown) (some : 0 < d.config.replicas) (log : IsLogged d texts)
    (mir : IsMirrored d texts p) (keep : ℕ → Bool) where
  abbrev id : ℕ
  id = d.head.start.id

  left_given : (t : ℕ) → is_left p keep d.config.backups t ≡ true → IsHeadLeft p keep t
  left_given t is =
      let parts = and_parts (not (nat_lt t p.least)) (any_below (λ b. keep b && opens (p.holds b t)) d.config.backups)
      is in
      let at = any_found (λ b. keep b && opens (p.holds b t)) d.config.backups parts.1 in
      let two = and_parts (keep at.0) (opens (p.holds at.0 t)) at.2 in
      (at.0, two.0, record { bears = opens_given (p.holds at.0 t) two.1; usable = not_less t p.least parts.0 })

  left_is : (t : ℕ) → IsHeadLeft p keep t → is_left p keep d.config.backups t ≡ true
  left_is t (b, is_kept, head) =
      let given = some_given (p.holds b t) (λ (r : Replica). IsSome r.text.opening) head.bears in
      and_from (not (nat_lt t p.least)) (any_below (λ c. keep c && opens (p.holds c t)) d.config.backups)
      (less_not t p.least head.usable)
      (any_there (λ c. keep c && opens (p.holds c t)) d.config.backups b (mir.bounded b t given.0 given.1)
      (and_from (keep b) (opens (p.holds b t)) is_kept (opens_is (p.holds b t) head.bears)))

  -- what a head that is held is
  abbrev At : ℕ → ℕ → Type 0
  At b t = (r : Replica) × (p.holds b t ≡ Some r) × Bearing d texts log p.least b t r

  at : (b t : ℕ) → HoldsHead p b t → At b t
  at b t head =
      let given = some_given (p.holds b t) (λ (r : Replica). IsSome r.text.opening) head.bears in
      (given.0, given.1, bearing d texts log p.least b t given.0 (mir.each b t given.0 given.1) given.2)

  left_next : (t : ℕ) → IsHeadLeft p keep t → t < d.next
  left_next t (b, is_kept, head) =
      let given = some_given (p.holds b t) (λ (r : Replica). IsSome r.text.opening) head.bears in
      next_of d texts log p.least b t given.0 (mir.each b t given.0 given.1)

  -- ---- heads that count

  head_bears : (b : ℕ) (r : Replica) → p.holds b id ≡ Some r → IsSome r.text.opening
  head_bears b r there =
      let one = any_opening d texts log p.least b id r (mir.each b id r there) in
      subst IsSome (sym (one ∙ ap (λ (t : Text). t.opening) log.text)) refl

  holds_head : (b : ℕ) → HasTaken d id b → p.least ≤ id → HoldsHead p b id
  holds_head b took usable =
      let there = some_is (p.holds b id) (mir.head b took) in
      record {
        bears = subst (λ (o : Option Replica). IsSomeAnd o (λ (r : Replica). IsSome r.text.opening)) (sym there.1)
            (head_bears b there.0 there.1);
        usable = usable;
      }

  holds_new : (n : Start) (b : ℕ) → IsNew d n → HasTaken d n.id b → p.least ≤ n.id → HoldsHead p b n.id
  holds_new n b is_new took usable = record {
    bears = subst (λ (o : Option Replica). IsSomeAnd o (λ (r : Replica). IsSome r.text.opening))
        (sym (mir.new n b is_new took)) refl;
    usable = usable;
  }

  -- a head that counts and may be used, no older than this
  abbrev Counts : ℕ → Type 0
  Counts t = (u : ℕ) × (t ≤ u) × IsOpenedHead d p u × (p.least ≤ u)

  new_counts : (n : Start) → IsNew d n → d.config.replicas ≤ length (d.took n.id) → p.least ≤ n.id
      → IsOpenedHead d p n.id
  new_counts n is_new opened usable =
      let one = some_member (d.took n.id) (omega arith) in
      (opened, (one.0, one.1, holds_new n one.0 is_new one.1 usable))

  third_new : (n : Start) → failover_head_of d.mode ≡ Some n → IsNew d n
  third_new n is = inl (third_is d.mode n is)

  -- the head in force, if there is one, or a newer head counts
  head_counts : (id ≡ 0 → ⊥) → Counts id
  head_counts real = elim mir.opened as (λ _. Counts id) [
    | inl none ↦ absurd (real none)
    | inr opened ↦ elim mir.least as (λ _. Counts id) [
      | inl usable ↦ (
          let one = some_member (d.took id) (omega arith) in
          (id, omega arith, (opened, (one.0, one.1, holds_head one.0 one.1 usable)), usable))
      | inr third ↦ (
          let is_new = third_new third.0 third.1 in
          let newer = log.newer third.0 is_new in
          (third.0.id, omega arith, new_counts third.0 is_new third.3 third.2, third.2))
    ]
  ]

  -- once a replica of the head is closed, a newer head counts
  stage_counts : NewIsOpened d → Counts (suc id)
  stage_counts stage = elim mir.least as (λ _. Counts (suc id)) [
    | inl usable ↦ (
        let newer = log.newer stage.n stage.is_new in
        (stage.n.id, omega arith, new_counts stage.n stage.is_new stage.opened (omega arith), omega arith))
    | inr third ↦ (
        let is_new = third_new third.0 third.1 in
        let newer = log.newer third.0 is_new in
        (third.0.id, omega arith, new_counts third.0 is_new third.3 third.2, third.2))
  ]

  -- a home of a head that counts holds it
  home_left : (t b : ℕ) → id ≤ t → IsOpenedHead d p t → p.least ≤ t → IsHome d t b → keep b ≡ true → IsHeadLeft p keep t
  home_left t b le was usable home is_kept =
      elim (at was.1.0 t was.1.2).2 as (λ _. IsHeadLeft p keep t) [
        | inl head ↦ (
            let same = head.0 in
            let took : HasTaken d id b = subst (λ (s : ℕ). HasTaken d s b) same home.0 in
            subst (λ (s : ℕ). IsHeadLeft p keep s) (sym same) (b, is_kept, holds_head b took (omega arith)))
        | inr (inl new) ↦ (
            let same = new.2 in
            let took : HasTaken d new.0.id b = subst (λ (s : ℕ). HasTaken d s b) same home.0 in
            subst (λ (s : ℕ). IsHeadLeft p keep s) (sym same)
            (b, is_kept, holds_new new.0 b new.1 took (omega arith)))
        | inr (inr old) ↦ (let lt = old.0 in absurd (omega arith))
      ]

  -- if a head counts that isn't older than that in force, one as new is left
  as_new : (t : ℕ) → id ≤ t → Counts t → HeadSurvives (IsHome d) (IsOpenedHead d p) p keep
      → (u : ℕ) × (t ≤ u) × IsHeadLeft p keep u
  as_new t le counts (inl newest) =
      let most = newest.1.newest counts.0 counts.2 in
      let more = counts.1 in
      elim newest.2 as (λ _. (u : ℕ) × (t ≤ u) × IsHeadLeft p keep u) [
        | inl left ↦ (
          newest.0,
          omega arith,
          home_left newest.0 left.0 (omega arith) newest.1.opened newest.1.usable left.1 left.2,
        )
        | inr later ↦ (let gt = later.1 in (later.0, omega arith, later.2))
      ]
  as_new t le counts (inr none) = absurd (none.0 counts.0 counts.2 counts.3)

  -- ---- a choice from a head that is left

  -- a whole replica is usable
  copy_usable : (n : Start) → IsStart d.config d.next texts n → (s : ℕ) (r : Replica) → IsAmong s n.others
      → IsCopy texts s r → IsUsable (digest_for n) s r
  copy_usable n start s r m (variant, inl shut) = inl shut
  copy_usable n start s r m (variant, inr same) =
      inr (long_enough d.config texts n start.lens s m (length_of r.text) (ap length_of same))

  -- a head that is left, open, and the newest
  record HeadFound : Type 0 where
    n : Start
    start : IsStart d.config d.next texts n
    b : ℕ
    r : Replica
    is_kept : keep b ≡ true
    there : p.holds b n.id ≡ Some r
    is_open : r.is_open ≡ true
    bears : r.text.opening ≡ Some (opening_for n)
    usable : p.least ≤ n.id
    newest : (t : ℕ) → IsHeadLeft p keep t → t ≤ n.id
    others : (s c : ℕ) → IsAmong s n.others → IsHome d s c → HoldsCopy texts p c s

  module _ (survive : BothSurvive (IsHome d) (IsOpenedHead d p) p keep) (h : HeadFound) where
    abbrev Held : Holding → Type 0
    Held x = IsHeld (survivors keep p) x × IsUsable (opening_for h.n).digest x.segment x.replica

    shown_held : (b s : ℕ) (r : Replica) → keep b ≡ true → p.holds b s ≡ Some r
        → (survivors keep p).holds b s ≡ Some r
    shown_held b s r is_kept there = ap (λ (t : Bool). cond t (p.holds b s) None) is_kept ∙ there

    record Others (ids : List ℕ) : Type 0 where
      hs : List Holding
      ids_are : map (λ (x : Holding). x.segment) hs ≡ ids
      each : AllByRecursion Held hs

    other_found : (s : ℕ) → IsAmong s h.n.others → (x : Holding) × (x.segment ≡ s) × Held x
    other_found s m =
        let below = below_at h.n.id h.n.others s h.start.below m in
        let listed : IsAmong s (listed_ids (digest_for h.n)) =
        subst (IsAmong s) (sym (ids_listed h.n)) (among_left s h.n.others (h.n.id ∷ []) m) in
        let left = survive.segments h.n.id (opening_for h.n) (record {
          b = h.b;
          r = h.r;
          is_kept = h.is_kept;
          held = h.there;
          bears = h.bears;
          usable = h.usable;
          newest = h.newest;
        }) s listed (λ e. omega arith) in
        let copy = h.others s left.0 m left.1 in (
          record { backup = left.0; segment = s; replica = copy.0 },
          refl,
          (shown_held left.0 s copy.0 left.2 copy.1, copy_usable h.n h.start s copy.0 m copy.2),
        )

    others_found : (ids : List ℕ) → ((s : ℕ) → IsAmong s ids → IsAmong s h.n.others) → Others ids
    others_found [] all = record { hs = []; ids_are = refl; each = tt }
    others_found (s ∷ ids) all =
        let here = other_found s (all s (inl refl)) in
        let rest = others_found ids (λ t m. all t (inr m)) in
        record {
          hs = here.0 ∷ rest.hs;
          ids_are = (λ i. here.1 i ∷ rest.ids_are i);
          each = (here.2, rest.each);
        }

    left_shown : (b t : ℕ) → HoldsHead (survivors keep p) b t → IsHeadLeft p keep t
    left_shown b t head =
        let given =
        some_given ((survivors keep p).holds b t) (λ (r : Replica). IsSome r.text.opening) head.bears in
        let there = held_by p keep (record { backup = b; segment = t; replica = given.0 }) given.1 in (
          b,
          there.0,
          record {
            bears = subst (λ (o : Option Replica). IsSomeAnd o (λ (r : Replica). IsSome r.text.opening))
                (sym there.1) given.2;
            usable = head.usable;
          },
        )

    choose : (c : Choice) × IsSurvivingChoice p keep c
    choose =
        let all = others_found h.n.others (λ s m. m) in (
          record {
            opening = opening_for h.n;
            head = record { backup = h.b; segment = h.n.id; replica = h.r };
            others = all.hs;
          },
          record {
            held = shown_held h.b h.n.id h.r h.is_kept h.there;
            is_open = h.is_open;
            opening = h.bears;
            usable = h.usable;
            newest = λ b t head. h.newest t (left_shown b t head);
            others = all.each;
            ids = ap (λ (l : List ℕ). l ++ h.n.id ∷ []) all.ids_are
                ∙ sym (ids_listed h.n);
          },
        )

  -- ---- which head

  other_there : (n : Start) (s c : ℕ) → (IsAmong s n.others → IsOther d s ⊎ (s ≡ id))
      → ((e : ℕ) → IsHome d id e → d.counts e ≡ length d.head.units) → IsAmong s n.others → IsHome d s c
      → HoldsCopy texts p c s
  other_there n s c which whole m home = elim (which m) as (λ _. HoldsCopy texts p c s) [
    | inl other ↦ mir.others s c other home
    | inr same ↦ subst (λ (t : ℕ). HoldsCopy texts p c t) (sym same)
        (head_copy d texts p log mir c (subst (λ (t : ℕ). IsHome d t c) same home) (whole c))
  ]

  new_found : (n : Start) (b : ℕ) (is_new : IsNew d n) → keep b ≡ true → p.holds b n.id ≡ Some (bare_replica n)
      → p.least ≤ n.id → ((t : ℕ) → IsHeadLeft p keep t → t ≤ n.id) → HeadFound
  new_found n b is_new is_kept there usable newest = record {
    n = n;
    start = log.new n is_new;
    b = b;
    r = bare_replica n;
    is_kept = is_kept;
    there = there;
    is_open = refl;
    bears = refl;
    usable = usable;
    newest = newest;
    others = λ s c m home. other_there n s c (λ k. elim (cases_eq s id) as (λ _. IsOther d s ⊎ (s ≡ id)) [
      | inl same ↦ inr same
      | inr other ↦ inl (inr (n, is_new, k, other))
    ]) (λ e at_home. mir.whole n b e is_new (is_some (p.holds b n.id) (bare_replica n) there) at_home) m home;
  }

  old_found : (b : ℕ) (r : Replica) (is : IsHeadReplica d b r) → keep b ≡ true → p.holds b id ≡ Some r
      → r.is_open ≡ true → p.least ≤ id → ((t : ℕ) → IsHeadLeft p keep t → t ≤ id) → HeadFound
  old_found b r is is_kept there open_now usable newest = record {
    n = d.head.start;
    start = log.head;
    b = b;
    r = r;
    is_kept = is_kept;
    there = there;
    is_open = open_now;
    bears = ap (λ (t : Text). t.opening) is.text;
    usable = usable;
    newest = newest;
    others = λ s c m home. mir.others s c (inl m) home;
  }

  some_left : HeadSurvives (IsHome d) (IsOpenedHead d p) p keep → (t : ℕ) × IsHeadLeft p keep t
  some_left (inr none) = none.1
  some_left (inl newest) = elim newest.2 as (λ _. (t : ℕ) × IsHeadLeft p keep t) [
    | inl left ↦ elim (cases_lt newest.0 id) as (λ _. (t : ℕ) × IsHeadLeft p keep t) [
      | inl lt ↦ absurd (
          let counts = head_counts (λ none. omega arith) in
          let most = newest.1.newest counts.0 counts.2 in
          let le = counts.1 in omega arith)
      | inr ge ↦ (newest.0, home_left newest.0 left.0 ge newest.1.opened newest.1.usable left.1 left.2)
    ]
    | inr later ↦ (later.0, later.2)
  ]

  found : HeadSurvives (IsHome d) (IsOpenedHead d p) p keep → HeadFound
  found survives =
      let one = some_left survives in
      let g = greatest_below (is_left p keep d.config.backups) d.next one.0 (left_next one.0 one.1)
      (left_is one.0 one.1) in
      let left = left_given g.k g.passes in
      let newest : (t : ℕ) → IsHeadLeft p keep t → t ≤ g.k =
      λ t l. g.greatest t (left_next t l) (left_is t l) in
      let what = at left.0 g.k left.2 in
      let usable = left.2.usable in
      elim what.2 as (λ _. HeadFound) [
        | inl head ↦ (
            let same = head.0 in
            elim (cases_Bool what.0.is_open) as (λ _. HeadFound) [
              | inl opened ↦ old_found left.0 what.0 head.1 left.1
                  (subst (λ (t : ℕ). p.holds left.0 t ≡ Some what.0) same what.1) opened (omega arith)
                  (λ t l. let le = newest t l in omega arith)
              | inr closed ↦ absurd (
                  let newer = stage_counts (head.1.shut closed).1 in
                  let lower : Counts id = (newer.0, (let le = newer.1 in omega arith), newer.2, newer.3) in
                  let later = as_new (suc id) (omega arith) newer survives in
                  let le = newest later.0 later.2 in
                  let ge = later.1 in omega arith)
            ])
        | inr (inl new) ↦ (
            let same = new.2 in
            new_found new.0 left.0 new.1 left.1
            (subst (λ (t : ℕ). p.holds left.0 t ≡ Some (bare_replica new.0)) same
            (what.1 ∙ ap (λ (q : Replica). Some q) new.3))
            (omega arith) (λ t l. let le = newest t l in omega arith))
        | inr (inr old) ↦ absurd (
            let lt = old.0 in
            let counts = head_counts (λ none. omega arith) in
            let later = as_new id (omega arith) counts survives in
            let le = newest later.0 later.2 in
            let ge = later.1 in omega arith)
      ]

  pub surviving_choice : BothSurvive (IsHome d) (IsOpenedHead d p) p keep
      → (c : Choice) × IsSurvivingChoice p keep c
  surviving_choice survive = choose survive (found survive.head)
