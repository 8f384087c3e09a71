-- A roll, or a failover, begins to open a new head.
use Rattle.std.proofs.Common.{◌≡◌, ℕ, ◌<◌, ◌≤◌, ◌⊎◌, inl, inr, true, false, List, [], length, map, Some, refl, sym, ap}
use Rattle.std.proofs.Common.{subst, ◌∙◌, arith}
use Rattle.std.specs.Prelude.{None, IsSome, ◌==◌}
use Rattle.std.proofs.lemmas.Bool.{cases_eq}
use Rattle.std.proofs.lemmas.Bool.Decides.{nat_tests}
use Rattle.std.proofs.lemmas.Option.{same_Some}
use Rattle.entry.specs.declared.entry.Entry.{Entry}
use Rattle.entry.specs.Bag.{IsAmong}
use Rattle.entry.specs.Meaning.{among}
use Rattle.versioned_map.specs.Represents.{Represents}
use Rattle.log_laws.specs.Heads.{Start, fewest}
use Rattle.log_laws.specs.Ids.{has}
use Rattle.log_laws.proofs.IdLists.{below_at}
use Rattle.log_laws.specs.Text.{Text, Replica}
use Rattle.log_laws.specs.Shown.{Shown}
use Rattle.log_laws.specs.Data.{bare, bare_replica, Mode, Rolls, Opens, Closes, Repairs, FailData, IsHome}
use Rattle.log_laws.specs.Data.{HasTaken, new_of, failover_head_of, is_failing, is_settled, IsNew, before}
use Rattle.log_laws.specs.Data.{everywhere, state_of}
use Rattle.log_laws.specs.Log.{Texts, IsVariant, IsBase, AreOfTablets, IsStart, IsLogged, NewIsOpened, IsReplica}
use Rattle.log_laws.specs.Log.{IsOther, HoldsCopy, IsLeast, IsMirrored, BasesStand, IsStanding}
use Rattle.log_laws.specs.Steps.{with_new, rolling, IsRoll}
use Rattle.log_laws.specs.Laws.{RollingIsHeld, RollingIsStanding}
use Rattle.log_laws.proofs.Lengths.{lens_each}
use Rattle.log_laws.proofs.Lists.{some_is}
use Rattle.log_laws.proofs.Replicas.{next_of}
use Rattle.log_laws.proofs.Texts.{base_moves, new_there, new_none, new_other, new_images, at_new, variant_back}
use Rattle.log_laws.proofs.Texts.{copy_at, whole_at, new_within}

module _ (d : FailData) (texts : Texts) (p : Shown) (n : Start) (mode : Mode) (log : IsLogged d texts)
    (mir : IsMirrored d texts p) (roll : IsRoll d texts p n mode) where
  abbrev id : ℕ
  id = d.head.start.id

  abbrev e : FailData
  e = rolling d n mode

  abbrev now : Texts
  now = with_new texts n.id (bare n)

  pub mode_new : new_of mode ≡ Some n
  mode_new = elim roll.may as (λ _. new_of mode ≡ Some n) [
    | inl is ↦ ap new_of is.1
    | inr is ↦ ap new_of is.1
  ]

  was_none : new_of d.mode ≡ None
  was_none = elim roll.may as (λ _. new_of d.mode ≡ None) [
    | inl is ↦ ap new_of is.0
    | inr is ↦ ap new_of is.0
  ]

  third_none : failover_head_of d.mode ≡ None
  third_none = elim roll.may as (λ _. failover_head_of d.mode ≡ None) [
    | inl is ↦ ap failover_head_of is.0
    | inr is ↦ ap failover_head_of is.0
  ]

  pub same_failing : is_failing mode ≡ is_failing d.mode
  same_failing = elim roll.may as (λ _. is_failing mode ≡ is_failing d.mode) [
    | inl is ↦ ap is_failing is.1 ∙ sym (ap is_failing is.0)
    | inr is ↦ ap is_failing is.1 ∙ sym (ap is_failing is.0)
  ]

  -- a settled master was calm
  was_settled : is_settled mode ≡ true → is_settled d.mode ≡ true
  was_settled is = elim roll.may as (λ _. is_settled d.mode ≡ true) [
    | inl calm ↦ ap is_settled calm.0
    | inr mends ↦ (let never : false ≡ true = sym (ap is_settled mends.1) ∙ is in absurd (cc))
  ]

  -- ---- the new heads

  old_new : (m : Start) → IsNew d m → IsNew e m
  old_new m (inl is) = let never : None ≡ Some m = sym was_none ∙ is in absurd (cc)
  old_new m (inr is) = inr is

  either_new : (m : Start) → IsNew e m → (n ≡ m) ⊎ IsNew d m
  either_new m (inl is) = inl (same_Some n m (sym mode_new ∙ is))
  either_new m (inr is) = inr (inr is)

  -- ---- ids

  pub head_apart : id ≡ n.id → ⊥
  head_apart same = let lt = log.head.next in let next = roll.next in omega arith

  old_apart : (m : Start) → IsNew d m → m.id ≡ n.id → ⊥
  old_apart m is_new same = let lt = (log.new m is_new).next in let next = roll.next in omega arith

  pub took_other : (s : ℕ) → (s ≡ n.id → ⊥) → e.took s ≡ d.took s
  took_other s other = let is : (s == n.id) ≡ false = grind (arith, nat_tests) in rw is refl

  pub none_taken : e.took n.id ≡ []
  none_taken = let is : (n.id == n.id) ≡ true = grind (arith, nat_tests) in rw is refl

  never_taken : (b : ℕ) → HasTaken e n.id b → ⊥
  never_taken b took = let never : has (e.took n.id) b ≡ false = ap (λ (l : List ℕ). has l b) none_taken in
      let also : true ≡ false = sym took ∙ never in cc

  had_taken : (s b : ℕ) → (s ≡ n.id → ⊥) → HasTaken e s b → HasTaken d s b
  had_taken s b other took = sym (ap (λ (l : List ℕ). has l b) (took_other s other)) ∙ took

  still_taken : (s b : ℕ) → (s ≡ n.id → ⊥) → HasTaken d s b → HasTaken e s b
  still_taken s b other took = ap (λ (l : List ℕ). has l b) (took_other s other) ∙ took

  listed_apart : (m : Start) → IsStart d.config d.next texts m → (s : ℕ) → IsAmong s m.others → s ≡ n.id → ⊥
  listed_apart m start s m_in same =
      let below = below_at m.id m.others s start.below m_in in
      let next = start.next in
      let own = roll.next in omega arith

  pub own_apart : (s : ℕ) → IsAmong s n.others → s ≡ n.id → ⊥
  own_apart s m_in same =
      let below = below_at n.id n.others s roll.below m_in in omega arith

  -- nothing is held of the new id
  nothing : (b : ℕ) → IsSome (p.holds b n.id) → ⊥
  nothing b some =
      let there = some_is (p.holds b n.id) some in
      let lt = next_of d texts log p.least b n.id there.0 (mir.each b n.id there.0 there.1) in
      let next = roll.next in omega arith

  -- ---- texts

  start_then : (m : Start) → IsStart d.config d.next texts m → IsStart d.config e.next now m
  start_then m start = record {
    below = start.below;
    lens = lens_each d.config texts now m (λ s among. new_other texts n.id (bare n) s (listed_apart m start s among))
        start.lens;
    next = (let next = start.next in omega arith);
  }

  own_start : IsStart d.config e.next now n
  own_start = record {
    below = roll.below;
    lens = lens_each d.config texts now n (λ s among. new_other texts n.id (bare n) s (own_apart s among)) roll.lens;
    next = (let next = roll.next in omega arith);
  }

  rolling_keys : (s : ℕ) (es : List Entry) → IsVariant now s es → AreOfTablets d.config es
  rolling_keys s es variant = elim (cases_eq s n.id) as (λ _. AreOfTablets d.config es) [
    | inl same ↦ (
        let own : IsVariant now n.id es = subst (λ (t : ℕ). IsVariant now t es) same variant in
        λ x k m at. absurd (elim own as (λ _. ⊥) [
          | inl is ↦ subst (λ (l : List Entry). among l x)
              (is ∙ ap (λ (t : Text). t.entries) (new_there texts n.id (bare n))) m
          | inr image ↦ subst (λ (l : List (List Entry)). IsAmong es l) (new_none texts n.id (bare n)) image
        ]))
    | inr other ↦ log.keys s es (variant_back texts now s es (at_new texts n.id (bare n) s other) variant)
  ]

  rolling_logged : IsLogged e now
  rolling_logged = record {
    head = start_then d.head.start log.head;
    text = new_other texts n.id (bare n) id head_apart ∙ log.text;
    counted = log.counted;
    one = new_images texts n.id (bare n) id head_apart ∙ log.one;
    some = log.some;
    new = λ m is_new. elim (either_new m is_new) as (λ _. IsStart d.config e.next now m) [
      | inl same ↦ subst (IsStart d.config e.next now) same own_start
      | inr old ↦ start_then m (log.new m old)
    ];
    newer = λ m is_new. elim (either_new m is_new) as (λ _. id < m.id) [
      | inl same ↦ (
          let one = ap (λ (x : Start). x.id) same in
          let lt = log.head.next in
          let next = roll.next in omega arith)
      | inr old ↦ log.newer m old
    ];
    new_text = λ m is_new. elim (either_new m is_new) as (λ _. now.text m.id ≡ bare m) [
      | inl same ↦ subst (λ (x : Start). now.text x.id ≡ bare x) same (new_there texts n.id (bare n))
      | inr old ↦ new_other texts n.id (bare n) m.id (old_apart m old) ∙ log.new_text m old
    ];
    new_one = λ m is_new. elim (either_new m is_new) as (λ _. now.images m.id ≡ []) [
      | inl same ↦ subst (λ (x : Start). now.images x.id ≡ []) same (new_none texts n.id (bare n))
      | inr old ↦ new_images texts n.id (bare n) m.id (old_apart m old) ∙ log.new_one m old
    ];
    keys = rolling_keys;
    images = new_within texts n.id (bare n) log.images;
    above = λ m k is among. elim roll.may as (λ _. k.id < m.id) [
      | inl calm ↦ (let never : None ≡ Some m = sym (ap failover_head_of calm.1) ∙ is in absurd (cc))
      | inr mends ↦ (
          let one = ap (λ (x : Start). x.id) (same_Some n m (sym (ap failover_head_of mends.1) ∙ is)) in
          let lt = (log.new k (inr among)).next in
          let next = roll.next in omega arith)
    ];
    settled = λ is. log.settled (was_settled is);
    repairs = λ is. elim roll.may as (λ _. (d.head.loaded ≡ []) × (d.head.units ≡ [])) [
      | inl calm ↦ (let never : Rolls n ≡ Repairs = sym calm.1 ∙ is in absurd (cc))
      | inr mends ↦ (let never : Opens n ≡ Repairs = sym mends.1 ∙ is in absurd (cc))
    ];
    two = λ fails. log.two (sym same_failing ∙ fails);
  }

  -- ---- replicas

  stage_then : NewIsOpened d → NewIsOpened e
  stage_then stage = record {
    n = stage.n;
    is_new = old_new stage.n stage.is_new;
    opened = (
        let same = ap length (took_other stage.n.id (old_apart stage.n stage.is_new)) in
        let enough = stage.opened in omega arith);
  }

  each_then : (b s : ℕ) (r : Replica) → IsReplica d texts p.least b s r → IsReplica e now p.least b s r
  each_then b s r (inl is) = inl (
    is.0,
    record {
      k = is.1.k;
      within = is.1.within;
      text = is.1.text;
      reach = elim is.1.reach as (λ _. (HasTaken e id b × (d.counts b ≤ is.1.k))
          ⊎ ((is.1.k ≡ length d.head.units) × (is_failing mode ≡ true))) [
            | inl had ↦ inl (still_taken id b head_apart had.0, had.1)
            | inr all ↦ inr (all.0, same_failing ∙ all.1)
          ];
      shut = λ closed. let all = is.1.shut closed in (all.0, stage_then all.1);
    },
  )
  each_then b s r (inr (inl is)) = inr (inl (is.0, old_new is.0 is.1, is.2, is.3))
  each_then b s r (inr (inr is)) =
      let other : s ≡ n.id → ⊥ = λ same. let lt = is.next in let next = roll.next in omega arith in
      let text = new_other texts n.id (bare n) s other in
      inr (inr (record {
        next = (let lt = is.next in omega arith);
        opening = is.opening ∙ sym (ap (λ (t : Text). t.opening) text);
        whole = whole_at d.config texts now s r (at_new texts n.id (bare n) s other) is.whole;
        bears = λ some. is.bears (subst (λ (t : Text). IsSome t.opening) text some);
      }))

  copy_then : (b s : ℕ) → (s ≡ n.id → ⊥) → HoldsCopy texts p b s → HoldsCopy now p b s
  copy_then b s other (r, there, copy) = (r, there, copy_at texts now s r (at_new texts n.id (bare n) s other) copy)

  others_then : (s b : ℕ) → IsOther e s → IsHome e s b → HoldsCopy now p b s
  others_then s b (inl m) home =
      let other = listed_apart d.head.start log.head s m in
      copy_then b s other (mir.others s b (inl m) (had_taken s b other home.0, home.1))
  others_then s b (inr is) home = elim (either_new is.0 is.1) as (λ _. HoldsCopy now p b s) [
    | inl same ↦ (
        let m : IsAmong s n.others = subst (λ (x : Start). IsAmong s x.others) (sym same) is.2 in
        let other = own_apart s m in
        copy_then b s other (roll.held s b m is.3 (had_taken s b other home.0, home.1)))
    | inr old ↦ (
        let other = listed_apart is.0 (log.new is.0 old) s is.2 in
        copy_then b s other (mir.others s b (inr (is.0, old, is.2, is.3)) (had_taken s b other home.0, home.1)))
  ]

  rolling_mirrored : IsMirrored e now p
  rolling_mirrored = record {
    bounded = mir.bounded;
    each = λ b s r is. each_then b s r (mir.each b s r is);
    head = λ b took. mir.head b (had_taken id b head_apart took);
    opened = elim mir.opened as (λ _. (id ≡ 0) ⊎ (d.config.replicas ≤ length (e.took id))) [
      | inl none ↦ inl none
      | inr enough ↦ (let same = ap length (took_other id head_apart) in inr (omega arith))
    ];
    new = λ m b is_new took. elim (either_new m is_new) as (λ _. p.holds b m.id ≡ Some (bare_replica m)) [
      | inl same ↦ absurd (never_taken b (subst (λ (x : Start). HasTaken e x.id b) (sym same) took))
      | inr old ↦ mir.new m b old (had_taken m.id b (old_apart m old) took)
    ];
    others = others_then;
    whole = λ m b c is_new some home. elim (either_new m is_new) as (λ _. d.counts c ≡ length d.head.units) [
      | inl same ↦ absurd (nothing b (subst (λ (x : Start). IsSome (p.holds b x.id)) (sym same) some))
      | inr old ↦ mir.whole m b c old some (had_taken id c head_apart home.0, home.1)
    ];
    least = elim mir.least as (λ _. IsLeast e p.least) [
      | inl old ↦ inl old
      | inr third ↦ (let never : None ≡ Some third.0 = sym third_none ∙ third.1 in absurd (cc))
    ];
    raised = λ m is. elim roll.may as (λ _. m.id ≤ p.least) [
      | inl calm ↦ (let never : Rolls n ≡ Closes m = sym calm.1 ∙ is in absurd (cc))
      | inr mends ↦ (let never : Opens n ≡ Closes m = sym mends.1 ∙ is in absurd (cc))
    ];
    shut = mir.shut;
    homes = λ is b took. mir.homes (was_settled is) b (had_taken id b head_apart took);
    new_homes = λ m b is took.
        let same : n ≡ m = same_Some n m (sym mode_new ∙ is) in
        absurd (never_taken b (subst (λ (x : Start). HasTaken e x.id b) (sym same) took));
  }

  -- ---- what the log stands for

  base_back : (ids : List ℕ) → ((s : ℕ) → IsAmong s ids → s ≡ n.id → ⊥) → (base : List Entry) → IsBase now ids base
      → IsBase texts ids base
  base_back ids other base is =
      base_moves now texts ids (λ s es m variant. variant_back texts now s es
      (at_new texts n.id (bare n) s (other s m)) variant) base is

  pub same_everywhere : everywhere e ≡ everywhere d
  same_everywhere =
      ap (λ (l : List ℕ). fewest (length d.head.units) (map d.counts l)) (took_other id head_apart)

  rolling_standing : IsStanding d texts → BasesStand texts n (state_of d) → IsStanding e now
  rolling_standing standing stands = record {
    numbers = standing.numbers;
    fronts = λ k base le is.
        standing.fronts k base le (base_back d.head.start.others (listed_apart d.head.start log.head) base is);
    new = λ m is_new base is. elim (either_new m is_new) as (λ _. Represents m.safe base (state_of d)) [
      | inl same ↦ subst (λ (x : Start). Represents x.safe base (state_of d)) same
          (stands base (base_back n.others own_apart base
          (subst (λ (x : Start). IsBase now x.others base) (sym same) is)))
      | inr old ↦ standing.new m old base (base_back m.others (listed_apart m (log.new m old)) base is)
    ];
    frozen = λ is.
        let old = standing.frozen (sym same_failing ∙ is) in
        subst (λ (k : ℕ). d.frozen ≤ before d k) (sym same_everywhere) old;
  }

pub rolling_is_held : RollingIsHeld
rolling_is_held d texts p n mode held roll = record {
  some = held.some;
  logged = rolling_logged d texts p n mode held.logged held.mirrored roll;
  mirrored = rolling_mirrored d texts p n mode held.logged held.mirrored roll;
}

pub rolling_is_standing : RollingIsStanding
rolling_is_standing d texts p n mode held standing roll stands =
    rolling_standing d texts p n mode held.logged held.mirrored roll standing stands
