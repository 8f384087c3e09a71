-- A roll ends with the last Close.
use Rattle.std.proofs.Common.{◌≡◌, ℕ, zero, suc, ◌+◌, ◌≤◌, true, List, [], ◌∷◌, ◌++◌, length, refl, ap, subst, arith}
use Rattle.std.specs.Prelude.{Some, IfSome, ◌==◌, replicate}
use Rattle.std.specs.List.{AllByRecursion}
use Rattle.std.proofs.lemmas.Bool.Decides.{nat_tests}
use Rattle.entry.specs.Text.{ends_with}
use Rattle.log_laws.specs.HeadSteps.{no_units}
use Rattle.log_head.specs.declared.head.Roll.{Roll}
use Rattle.log_head.specs.Head.{HeadValue, IsHeadValue, IsRollValue}
use Rattle.log_head.specs.Steps.{in_force, with_closed_replica, old_image}

pub ends_with_push : (ids : List ℕ) (id : ℕ) → ends_with id (ids ++ id ∷ []) ≡ true
ends_with_push [] id = grind (arith, nat_tests)
ends_with_push (x ∷ []) id = grind (arith, nat_tests)
ends_with_push (x ∷ y ∷ ys) id = ends_with_push (y ∷ ys) id

pub zeros_are : (n : ℕ) → replicate n 0 ≡ no_units n
zeros_are zero = refl
zeros_are (suc n) = ap (λ (ks : List ℕ). 0 ∷ ks) (zeros_are n)

pub zeros_length : (n : ℕ) → length (no_units n) ≡ n
zeros_length zero = refl
zeros_length (suc n) = ap suc (zeros_length n)

pub zeros_few : (n : ℕ) → AllByRecursion (λ (k : ℕ). k ≤ 0) (no_units n)
zeros_few zero = tt
zeros_few (suc n) = (omega arith, zeros_few n)

module _ (h : HeadValue) (r : Roll) (valid : IsHeadValue h) (is : h.roll ≡ Some r) where
  pub rolls : IsRollValue h.replicas (length h.taken) r
  rolls = subst (λ o. IfSome o (IsRollValue h.replicas (length h.taken))) is valid.roll

  -- once no replica but the last is left to be closed
  module _ (last : h.replicas ≤ r.closed + 1) where
    test : (suc r.closed == h.replicas) ≡ true
    test = let lt = rolls.closed in grind (arith, nat_tests)

    pub ends_roll : with_closed_replica h r ≡ in_force h r
    ends_roll = rw test refl

    pub hands_out : old_image h r ≡ Some h.image
    hands_out = rw test refl

  pub in_force_valid : IsHeadValue (in_force h r)
  in_force_valid = record {
    segment = rolls.segment;
    limit = rolls.limit;
    units = refl;
    opened = (let e = zeros_length h.replicas in omega arith);
    few = valid.few;
    taken = zeros_few h.replicas;
    roll = tt;
  }
