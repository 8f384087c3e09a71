-- A bound on the pushes that an open failover still needs, and that none is needed just if no failover is open.
use Rattle.std.proofs.Common.{◌≡◌, ℕ, suc, ◌+◌, ◌-◌, ◌*◌, ◌<◌, ◌≤◌, Bool, true, false, List, [], ◌∷◌, length, refl}
use Rattle.std.proofs.Common.{sym, ap, subst, ◌∙◌, arith}
use Rattle.std.specs.Prelude.{Option, Some, None, IfSome, IsSome, ◌↔◌, ◌==◌, nat_lt, if◌then◌else◌}
use Rattle.std.specs.List.{AllByRecursion}
use Rattle.std.specs.Option.{option_map_or}
use Rattle.std.proofs.Math.Nat.{mul-suc, mul-le-mul_left}
use Rattle.std.proofs.lemmas.Bool.{ltb-true, ltb-false}
use Rattle.std.proofs.lemmas.List.{length-append}
use Rattle.master_state.specs.cleaner.Seals.{first_lacking}
use Rattle.images.specs.Image.{Image}
use Rattle.images.specs.Sorted.{replicas_of}
use Rattle.log_head.specs.declared.head.Roll.{Roll}
use Rattle.log_head.specs.Head.{digest_of}
use Rattle.log_head.specs.Log.{head_of, start_of}
use Rattle.log_head.proofs.RollLog.{digest_is}
use Rattle.log_head.proofs.Rolls.{rolls}
use Rattle.log_head.specs.log_laws.Heads.{ids_of}
use Rattle.log_head.proofs.log_laws.ListedIds.{ids_listed}
use Rattle.master_state.specs.declared.failover.Failover.{Failover}
use Rattle.master_state.specs.declared.failover.Part.{Part}
use Rattle.master_state.specs.declared.failover.Part.TheVariants as part
use Rattle.master_state.specs.Budget.{most_segments}
use Rattle.master_state.specs.Data.{MasterData}
use Rattle.master_state.specs.Invariant.{IsCore, IsFailover, IsRollOf}
use Rattle.master_state.proofs.LogIds.{others_below}
use Rattle.master_failover.specs.Mending.{IsInPart, was_headless, opened_now}
use Rattle.master_failover.specs.Left.{count_below, lost_of, others_now, lost_now, unmended, to_close, left_in}
use Rattle.master_failover.specs.Left.{left_now}
use Rattle.master_failover.proofs.Changed.{own}
use Rattle.master_failover.proofs.Counts.{few_below}
use Rattle.master_failover.proofs.Losses.{lost_here, lacks_later}

-- ---- lost replicas

lost_within : (replicas : ℕ) (closed : List Image) (head : ℕ) (ids : List ℕ)
    → lost_of replicas closed head ids ≤ replicas * length ids
lost_within replicas closed head [] = omega arith
lost_within replicas closed head (s ∷ ids) = go (s == head) refl (lost_within replicas closed head ids) where
  go : (t : Bool) → (s == head) ≡ t → lost_of replicas closed head ids ≤ replicas * length ids
      → lost_of replicas closed head (s ∷ ids) ≤ replicas * suc (length ids)
  go true is le = (let more = mul-suc replicas (length ids) in rw is (omega arith))
  go false is le = (let more = mul-suc replicas (length ids) in rw is (omega arith))

-- some replica is lost if a segment below the head lacks one
pub lost_some : (replicas : ℕ) (closed : List Image) (head : ℕ) (ids : List ℕ)
    → AllByRecursion (λ (s : ℕ). s < head) ids → (first_lacking replicas closed ids ≡ None → ⊥)
    → 0 < lost_of replicas closed head ids
lost_some replicas closed head [] below lacks = absurd (lacks refl)
lost_some replicas closed head (s ∷ ids) below lacks =
    go (nat_lt (replicas_of closed s) replicas) refl (lost_some replicas closed head ids below.1)
  where
    here : lost_of replicas closed head (s ∷ ids) ≡ (replicas - replicas_of closed s) + lost_of replicas closed head ids
    here = lost_here replicas closed head s ids (λ same. (let lt = below.0 in omega arith))

    go : (t : Bool) → nat_lt (replicas_of closed s) replicas ≡ t
        → ((first_lacking replicas closed ids ≡ None → ⊥) → 0 < lost_of replicas closed head ids)
        → 0 < lost_of replicas closed head (s ∷ ids)
    go true is later = (let lt = ltb-true (replicas_of closed s) replicas is in let sum = here in omega arith)
    go false is later =
        let le = ltb-false (replicas_of closed s) replicas is in
        let rest = later (λ none. lacks (lacks_later replicas closed s ids le ∙ none)) in
        let sum = here in
        omega arith

-- ---- what is left in a part

pub left_is : (d : MasterData) (p : Part) → IsInPart d p → left_now d ≡ left_in d p
left_is d p is =
    ap (λ (o : Option Failover). option_map_or (λ (f : Failover). left_in d f.part) o 0) is.1 ∙ ap (left_in d) is.2

limit : (r n most own lost : ℕ) → lost ≤ r * n → n + 1 ≤ most → own ≤ 3 * r + 1 → own + lost ≤ r * (most + 2) + 1
limit r n most own lost within few small =
    let one = mul-suc r n in
    let two = mul-suc r (suc n) in
    let three = mul-suc r (suc (suc n)) in
    let le : r * suc (suc (suc n)) ≤ r * (most + 2) = mul-le-mul_left r (omega arith) in
    omega arith

module _ (d : MasterData) (core : IsCore d) where
  -- the newest digest has one id more than there are others
  others_few : length (others_now d) + 1 ≤ most_segments d.config
  others_few = go d.head.roll core.roll core.listed where
    go : (o : Option Roll) → IfSome o (IsRollOf d)
        → length (option_map_or (λ (r : Roll). digest_of r.image) o (digest_of d.head.image)) ≤ most_segments d.config
        → length (option_map_or (λ (r : Roll). (start_of r).others) o (head_of d.head).start.others) + 1
        ≤ most_segments d.config
    go None is few =
        let ids = ap length (digest_is d.config.master d.head (head_of d.head) core.image) in
        let more = length-append (head_of d.head).start.others ((head_of d.head).start.id ∷ []) in
        omega arith
    go (Some r) is few =
        let ids : length (digest_of r.image) ≡ length (ids_of (start_of r)) =
        ap length (ap digest_of is.image ∙ ids_listed (start_of r)) in
        let more = length-append (start_of r).others ((start_of r).id ∷ []) in
        omega arith

  lost_few : lost_now d ≤ d.config.replicas * length (others_now d)
  lost_few = lost_within d.config.replicas d.closed d.head.id (others_now d)

  unmended_few : unmended d ≤ d.config.replicas
  unmended_few = go (was_headless d) where
    go : (t : Bool) → (if t then d.config.replicas
        else count_below (length d.head.units) d.head.taken + (d.config.replicas - length d.head.taken))
        ≤ d.config.replicas
    go true = omega arith
    go false =
        let below = few_below (length d.head.units) d.head.taken in
        let opened = core.head.opened in
        let same = core.replicas in
        omega arith

  to_close_few : to_close d ≤ d.config.replicas
  to_close_few = go d.head.roll where
    go : (o : Option Roll) → option_map_or (λ (r : Roll). d.config.replicas - r.closed) o 0 ≤ d.config.replicas
    go None = omega arith
    go (Some r) = omega arith

  pub left_few : left_now d ≤ d.config.replicas * (most_segments d.config + 2) + 1
  left_few = go d.failover where
    within : (own : ℕ) → own ≤ 3 * d.config.replicas + 1
        → own + lost_now d ≤ d.config.replicas * (most_segments d.config + 2) + 1
    within own small =
        limit d.config.replicas (length (others_now d)) (most_segments d.config) own (lost_now d) lost_few others_few
        small

    by_part : (p : Part) → left_in d p ≤ d.config.replicas * (most_segments d.config + 2) + 1
    by_part part.Mends =
        let few = unmended_few in
        within (unmended d + (d.config.replicas + 1) + d.config.replicas) (omega arith)
    by_part part.Opens =
        let few = to_close_few in
        within ((d.config.replicas - opened_now d) + 1 + to_close d) (omega arith)
    by_part part.Closes = (let few = to_close_few in within (to_close d) (omega arith))
    by_part part.Repairs = (let all = within 0 (omega arith) in omega arith)

    go : (o : Option Failover) → option_map_or (λ (f : Failover). left_in d f.part) o 0
        ≤ d.config.replicas * (most_segments d.config + 2) + 1
    go None = omega arith
    go (Some f) = by_part f.part

  -- ---- something is left while one is open

  module _ (f : Failover) (is : d.failover ≡ Some f) where
    fails : IsFailover d f
    fails = own d core f is

    closes_some : (o : Option Roll) → d.head.roll ≡ o → IsSome o
        → 0 < option_map_or (λ (r : Roll). d.config.replicas - r.closed) o 0
    closes_some None same some = absurd (cc)
    closes_some (Some r) same some =
        let lt = (rolls d.head r core.head same).closed in
        let all = core.replicas in
        omega arith

    repairs_some : f.part ≡ part.Repairs → 0 < lost_now d
    repairs_some p =
        subst (λ (o : Option Roll). 0 < lost_of d.config.replicas d.closed d.head.id
        (option_map_or (λ (r : Roll). (start_of r).others) o (head_of d.head).start.others))
        (sym (fails.repairs p).2)
        (lost_some d.config.replicas d.closed d.head.id (head_of d.head).start.others (others_below d core)
        (fails.repairs p).6)

    pub left_some : 0 < left_now d
    left_some = go f.part refl where
      here : (p : Part) → f.part ≡ p → 0 < left_in d p → 0 < left_now d
      here p same lt = (let sum = left_is d p (f, is, same) in omega arith)

      go : (p : Part) → f.part ≡ p → 0 < left_now d
      go part.Mends same = here part.Mends same (omega arith)
      go part.Opens same = here part.Opens same (omega arith)
      go part.Closes same =
          let some = closes_some d.head.roll refl (fails.closes same).3 in
          here part.Closes same (omega arith)
      go part.Repairs same = here part.Repairs same (repairs_some same)

  -- none is open just if nothing is left
  pub left_none : (d.failover ≡ None) ↔ (left_now d ≡ 0)
  left_none = (
    λ none. ap (λ (o : Option Failover). option_map_or (λ (f : Failover). left_in d f.part) o 0) none,
    λ zero. go d.failover refl zero,
  ) where
    go : (o : Option Failover) → d.failover ≡ o → left_now d ≡ 0 → o ≡ None
    go None is zero = refl
    go (Some f) is zero = (let some = left_some f is in absurd (omega arith))
