-- A replica is put at a place: what is true of the other replicas stays true.
use Rattle.std.proofs.Common.{◌≡◌, ℕ, ◌<◌, ◌⊎◌, inl, inr, true, false, length, Some, refl, sym, ap, subst, ◌∙◌, arith}
use Rattle.std.specs.Prelude.{Option, IsSome}
use Rattle.std.proofs.lemmas.Bool.{cases_eq}
use Rattle.std.proofs.lemmas.Option.{same_Some}
use Rattle.log_laws.specs.Ids.{has}
use Rattle.log_laws.proofs.IdLists.{below_at}
use Rattle.log_laws.specs.Heads.{Start}
use Rattle.log_laws.specs.Text.{Text, Replica}
use Rattle.log_laws.specs.Shown.{Holds, Shown, Act, with_replica}
use Rattle.log_laws.specs.Data.{bare, bare_replica, FailData, IsHome, HasTaken, IsNew}
use Rattle.log_laws.specs.Log.{Texts, IsLogged, IsCopy, IsReplica, IsOther, HoldsCopy, IsMirrored}
use Rattle.log_laws.proofs.Lists.{some_is, is_some}
use Rattle.log_laws.proofs.Pictures.{changed, unchanged, either, still_held, IsTaken}

-- What a replica that is put at a place has to be.
pub record IsGood (d : FailData) (texts : Texts) (p : Shown) (b s : ℕ) (r : Replica) : Type 0 where
  pub bounded : b < d.config.backups
  pub is : IsReplica d texts p.least b s r
  pub new : (n : Start) → IsNew d n → s ≡ n.id → (r ≡ bare_replica n)
      × ((c : ℕ) → IsHome d d.head.start.id c → d.counts c ≡ length d.head.units)
  pub other : IsOther d s → IsHome d s b → IsCopy texts s r
  pub shut : s ≡ d.head.start.id → has d.shut b ≡ true → r.is_open ≡ false

-- another id of a digest is not the head's
pub other_apart : (d : FailData) (texts : Texts) → IsLogged d texts → (s : ℕ) → IsOther d s → s ≡ d.head.start.id → ⊥
other_apart d texts log s (inl m) same =
    let below = below_at d.head.start.id d.head.start.others s log.head.below m in omega arith
other_apart d texts log s (inr is) same = is.3 same

-- two new heads of one id are one replica
pub one_bare : (d : FailData) (texts : Texts) → IsLogged d texts → (n m : Start) → IsNew d n → IsNew d m → n.id ≡ m.id
    → bare_replica n ≡ bare_replica m
one_bare d texts log n m is_new also same =
    let one : bare n ≡ bare m = sym (log.new_text n is_new) ∙ ap texts.text same ∙ log.new_text m also in
    ap (λ (t : Text). record { text = t; is_open = true }) one

module _ (d : FailData) (texts : Texts) (p : Shown) (mir : IsMirrored d texts p) (b s : ℕ) (r : Replica)
    (good : IsGood d texts p b s r) where
  abbrev now : Holds
  now = with_replica p.holds b s (Some r)

  abbrev q : Shown
  q = record { holds = now; least = p.least }

  -- one replica or the other
  case : (P : ℕ → ℕ → Replica → Type 0) → ((c t : ℕ) (x : Replica) → p.holds c t ≡ Some x → P c t x) → P b s r
      → (c t : ℕ) (x : Replica) → now c t ≡ Some x → P c t x
  case P old new c t x is = elim (either p.holds b s (Some r) c t x is) as (λ _. P c t x) [
    | inl same ↦ subst (λ (y : Replica). P c t y) (same_Some r x same.2)
        (subst (λ (y : ℕ). P c y r) same.1 (subst (λ (y : ℕ). P y s r) same.0 new))
    | inr other ↦ old c t x other.1
  ]

  tells : (c t : ℕ) → ((b ≡ c) × (s ≡ t)) ⊎ ((b ≡ c) × (s ≡ t) → ⊥)
  tells c t = elim (cases_eq b c) as (λ _. ((b ≡ c) × (s ≡ t)) ⊎ ((b ≡ c) × (s ≡ t) → ⊥)) [
    | inl one ↦ elim (cases_eq s t) as (λ _. ((b ≡ c) × (s ≡ t)) ⊎ ((b ≡ c) × (s ≡ t) → ⊥)) [
      | inl two ↦ inl (one, two)
      | inr other ↦ inr (λ both. other both.1)
    ]
    | inr other ↦ inr (λ both. other both.0)
  ]

  new_then : (n : Start) (c : ℕ) → IsNew d n → HasTaken d n.id c → now c n.id ≡ Some (bare_replica n)
  new_then n c is_new took = elim (tells c n.id) as (λ _. now c n.id ≡ Some (bare_replica n)) [
    | inl at ↦ (let at_b : now b s ≡ Some r = changed p.holds b s (Some r) in
        subst (λ (y : ℕ). now y n.id ≡ Some (bare_replica n)) at.0
        (subst (λ (y : ℕ). now b y ≡ Some (bare_replica n)) at.1
        (at_b ∙ ap (λ (y : Replica). Some y) (good.new n is_new at.1).0)))
    | inr other ↦ unchanged p.holds b s (Some r) c n.id other ∙ mir.new n c is_new took
  ]

  others_then : (t c : ℕ) → IsOther d t → IsHome d t c → HoldsCopy texts q c t
  others_then t c other home = elim (tells c t) as (λ _. HoldsCopy texts q c t) [
    | inl at ↦ (
        let was : IsOther d s = subst (IsOther d) (sym at.1) other in
        let home_b : IsHome d s b =
        subst (λ (y : ℕ). IsHome d y b) (sym at.1) (subst (λ (y : ℕ). IsHome d t y) (sym at.0) home) in
        subst (λ (y : ℕ). HoldsCopy texts q y t) at.0 (subst (λ (y : ℕ). HoldsCopy texts q b y) at.1
        (r, changed p.holds b s (Some r), good.other was home_b)))
    | inr away ↦ (
        let there = mir.others t c other home in
        (there.0, unchanged p.holds b s (Some r) c t away ∙ there.1, there.2))
  ]

  whole_then : (n : Start) (c e : ℕ) → IsNew d n → IsSome (now c n.id) → IsHome d d.head.start.id e
      → d.counts e ≡ length d.head.units
  whole_then n c e is_new some home =
      let there = some_is (now c n.id) some in
      elim (either p.holds b s (Some r) c n.id there.0 there.1) as (λ _. d.counts e ≡ length d.head.units) [
        | inl at ↦ (good.new n is_new at.1).1 e home
        | inr old ↦ mir.whole n c e is_new (is_some (p.holds c n.id) there.0 old.1) home
      ]

  pub placed_mirrored : IsMirrored d texts q
  placed_mirrored = record {
    bounded = λ c t x is. case (λ y _ _. y < d.config.backups) mir.bounded good.bounded c t x is;
    each = λ c t x is. case (λ y z w. IsReplica d texts p.least y z w) mir.each good.is c t x is;
    head = λ c took. still_held p.holds b s r c d.head.start.id (mir.head c took);
    opened = mir.opened;
    new = new_then;
    others = others_then;
    whole = whole_then;
    least = mir.least;
    raised = mir.raised;
    shut = λ c x shut is.
        case (λ y z w. z ≡ d.head.start.id → has d.shut y ≡ true → w.is_open ≡ false)
        (λ y z w was same closed. mir.shut y w closed (subst (λ (k : ℕ). p.holds y k ≡ Some w) same was))
        good.shut c d.head.start.id x is refl shut;
    homes = mir.homes;
    new_homes = mir.new_homes;
  }

-- What an op leaves that puts a replica at a place.
pub record IsPut (d : FailData) (texts : Texts) (b s : ℕ) (r : Replica) (q : Shown) : Type 0 where
  pub mirrored : IsMirrored d texts q
  pub there : q.holds b s ≡ Some r

pub put_there : (d : FailData) (texts : Texts) (p q : Shown) (b s : ℕ) (act : Act) (r : Replica) → IsMirrored d texts p
    → (is : IsTaken p b s act q) → is.x ≡ Some r → IsGood d texts p b s r → IsPut d texts b s r q
put_there d texts p q b s act r mir is x_is good =
    let q_is : q ≡ record { holds = with_replica p.holds b s (Some r); least = p.least } =
    is.same ∙ ap (λ (x : Option Replica). record { holds = with_replica p.holds b s x; least = p.least }) x_is in
    record {
      mirrored = subst (IsMirrored d texts) (sym q_is) (placed_mirrored d texts p mir b s r good);
      there = ap (λ (w : Shown). w.holds b s) q_is ∙ changed p.holds b s (Some r);
    }
