-- How many records come before a unit, and the least number of units that a replica has.
use Rattle.std.proofs.Common.{◌≡◌, ℕ, zero, suc, ◌<◌, ◌≤◌, List, [], ◌∷◌, ◌++◌, length, Some, refl, ap, arith}
use Rattle.std.specs.Prelude.{None, slice_get}
use Rattle.std.proofs.lemmas.Option.{same_Some}
use Rattle.log_laws.specs.Heads.{LogUnit, records_before, fewest}
use Rattle.log_laws.specs.Rising.{Rise}

-- ---- units that rise

pub rise_le : (from : ℕ) (us : List LogUnit) (all : ℕ) → Rise from us all → from ≤ all
rise_le from [] all r = r
rise_le from (u ∷ us) all r = let first = r.0 in let later = rise_le (suc u.number) us all r.1 in omega arith

pub rise_more : (from : ℕ) (us : List LogUnit) (all more : ℕ) → all ≤ more → Rise from us all → Rise from us more
rise_more from [] all more le r = omega arith
rise_more from (u ∷ us) all more le r = (r.0, rise_more (suc u.number) us all more le r.1)

pub rise_push : (from : ℕ) (us : List LogUnit) (u : LogUnit) (all : ℕ) → u.number < all → Rise from us u.number
    → Rise from (us ++ u ∷ []) all
rise_push from [] u all lt r = (r, omega arith)
rise_push from (v ∷ us) u all lt r = (r.0, rise_push (suc v.number) us u all lt r.1)

-- ---- the records before a unit

before_from : (from : ℕ) (us : List LogUnit) (all k : ℕ) → Rise from us all → from ≤ records_before us all k
before_from from [] all k r = r
before_from from (u ∷ us) all zero r = r.0
before_from from (u ∷ us) all (suc k) r =
    let first = r.0 in let later = before_from (suc u.number) us all k r.1 in omega arith

pub before_le : (from : ℕ) (us : List LogUnit) (all k : ℕ) → Rise from us all → records_before us all k ≤ all
before_le from [] all k r = omega arith
before_le from (u ∷ us) all zero r = let later = rise_le (suc u.number) us all r.1 in omega arith
before_le from (u ∷ us) all (suc k) r = before_le (suc u.number) us all k r.1

pub before_rise : (from : ℕ) (us : List LogUnit) (all m n : ℕ) → Rise from us all → m ≤ n
    → records_before us all m ≤ records_before us all n
before_rise from [] all m n r le = omega arith
before_rise from (u ∷ us) all zero zero r le = omega arith
before_rise from (u ∷ us) all zero (suc n) r le =
    let later = before_from (suc u.number) us all n r.1 in omega arith
before_rise from (u ∷ us) all (suc m) zero r le = absurd (omega arith)
before_rise from (u ∷ us) all (suc m) (suc n) r le = before_rise (suc u.number) us all m n r.1 (omega arith)

-- at a unit that is there the number of all records doesn't matter
pub before_within : (us : List LogUnit) (a b k : ℕ) → k < length us → records_before us a k ≡ records_before us b k
before_within [] a b k lt = absurd (omega arith)
before_within (u ∷ us) a b zero lt = refl
before_within (u ∷ us) a b (suc k) lt = before_within us a b k (omega arith)

pub before_end : (us : List LogUnit) (all k : ℕ) → length us ≤ k → records_before us all k ≡ all
before_end [] all k le = refl
before_end (u ∷ us) all zero le = absurd (omega arith)
before_end (u ∷ us) all (suc k) le = before_end us all k (omega arith)

-- up to the last unit
pub before_push : (us : List LogUnit) (u : LogUnit) (all k : ℕ) → k ≤ length us
    → records_before (us ++ u ∷ []) all k ≡ records_before us u.number k
before_push [] u all zero le = refl
before_push [] u all (suc k) le = absurd (omega arith)
before_push (v ∷ us) u all zero le = refl
before_push (v ∷ us) u all (suc k) le = before_push us u all k (omega arith)

pub before_at : (us : List LogUnit) (all place : ℕ) (u : LogUnit) → slice_get us place ≡ Some u
    → records_before us all place ≡ u.number
before_at [] all place u is = absurd (cc)
before_at (v ∷ us) all zero u is = ap (λ (x : LogUnit). x.number) (same_Some v u is)
before_at (v ∷ us) all (suc place) u is = before_at us all place u is

pub before_past : (us : List LogUnit) (all place : ℕ) → slice_get us place ≡ None → records_before us all place ≡ all
before_past [] all place is = refl
before_past (v ∷ us) all zero is = absurd (cc)
before_past (v ∷ us) all (suc place) is = before_past us all place is

-- ---- the fewest units

pub fewest_below : (units n j : ℕ) (ns : List ℕ) → slice_get ns j ≡ Some n → fewest units ns ≤ n
fewest_below units n j [] e = absurd (cc)
fewest_below units n zero (m ∷ ns) e = let same = same_Some m n e in omega arith
fewest_below units n (suc j) (m ∷ ns) e = let later = fewest_below units n j ns e in omega arith

pub fewest_rise : (a b : ℕ) (ns : List ℕ) → a ≤ b → fewest a ns ≤ fewest b ns
fewest_rise a b [] le = le
fewest_rise a b (n ∷ ns) le = let later = fewest_rise a b ns le in omega arith
