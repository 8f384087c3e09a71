-- A binary search for a segment.
use Rattle.std.proofs.Common.{◌≡◌, ℕ, zero, suc, ◌<◌, ◌≤◌, false, List, [], ◌∷◌, length, get_or, refl, ap, subst}
use Rattle.std.proofs.Common.{arith, add-one, inl, inr, ◌∙◌}
use Rattle.std.specs.Prelude.{Option, Result, Ok, Err, IfSome, IfNone, MatchResult}
use Rattle.std.specs.List.Sorted.{IsBinarySearchResult, IsSearchInRange, IsSortedBy}
use Rattle.std.specs.Ordering.{nat_cmp, is_lt, MatchOrdering}
use Rattle.std.specs.declared.cmp.Ordering.{Ordering}
use Rattle.std.specs.declared.cmp.Ordering.TheVariants.{Less, Equal, Greater}
use Rattle.std.specs.Result.{result_ok}
use Rattle.std.proofs.lemmas.Cmp.{nat_cmp_total, ranked}
use Rattle.std.proofs.lemmas.List.Sorted.{searchable_from_sorted}
use Rattle.tally.specs.declared.tallies.Tally.{Tally}
use Rattle.tally.specs.Rows.{AreRising, IsPlaceOf, HasNo}
use Rattle.tally.proofs.Listing.{all_at}

pub rise : (xs : List Tally) → AreRising xs → (i j : ℕ) (d : Tally) → i ≤ j → j < length xs
    → (get_or xs i d).segment ≤ (get_or xs j d).segment
rise [] rising i j d le lt = absurd (omega arith)
rise (x ∷ xs) rising zero zero d le lt = omega arith
rise (x ∷ xs) rising zero (suc j) d le lt =
    let above : x.segment < (get_or xs j d).segment =
    all_at (λ (y : Tally). x.segment < y.segment) xs j d rising.0 (omega arith) in
    omega (arith, above)
rise (x ∷ xs) rising (suc i) zero d le lt = absurd (omega arith)
rise (x ∷ xs) rising (suc i) (suc j) d le lt = rise xs rising.1 i j d (omega arith) (omega arith)

not_less : (a b : ℕ) → a ≤ b → is_lt (nat_cmp b a) ≡ false
not_less a b le = go (nat_cmp b a) (ranked b a (nat_cmp b a) refl)
  where
    go : (o : Ordering) → MatchOrdering o (b < a) (b ≡ a) (a < b) → is_lt o ≡ false
    go Less is = absurd (omega arith)
    go Equal is = refl
    go Greater is = refl

sorted : (xs : List Tally) → AreRising xs → IsSortedBy (λ (a b : Tally). is_lt (nat_cmp a.segment b.segment)) xs
sorted xs rising k d low lt = rw add-one (not_less (get_or xs k d).segment (get_or xs (suc k) d).segment
    (rise xs rising k (suc k) d (omega arith) (omega arith)))

equal_ids : (a b : ℕ) → nat_cmp a b ≡ Equal → a ≡ b
equal_ids a b is = subst (λ (o : Ordering). MatchOrdering o (a < b) (a ≡ b) (b < a)) is (ranked a b (nat_cmp a b) refl)

less_ids : (a b : ℕ) → nat_cmp a b ≡ Less → a < b
less_ids a b is = subst (λ (o : Ordering). MatchOrdering o (a < b) (a ≡ b) (b < a)) is (ranked a b (nat_cmp a b) refl)

greater_ids : (a b : ℕ) → nat_cmp a b ≡ Greater → b < a
greater_ids a b is = subst (λ (o : Ordering). MatchOrdering o (a < b) (a ≡ b) (b < a)) is
    (ranked a b (nat_cmp a b) refl)

-- none is of the segment where each place has another one
absent_by_place : (xs : List Tally) (s : ℕ) → ((k : ℕ) (d : Tally) → k < length xs → (get_or xs k d).segment ≡ s
    → ⊥) → HasNo s xs
absent_by_place [] s other row is here = is
absent_by_place (x ∷ xs) s other row (inl same) here =
    other zero x (omega arith) (ap (λ (y : Tally). y.segment) same ∙ here)
absent_by_place (x ∷ xs) s other row (inr later) here =
    absent_by_place xs s (λ (k : ℕ) (d : Tally) (lt : k < length xs). other (suc k) d (omega arith)) row later here

-- what the search found, or that there is none
pub searched : (xs : List Tally) (s : ℕ) (r : Result ℕ ℕ) → AreRising xs → IsSearchInRange r (length xs)
    → IsBinarySearchResult (λ (y : Tally). nat_cmp y.segment s) xs r
    → MatchResult r (λ (at : ℕ). IsPlaceOf xs s at) (λ (_ : ℕ). HasNo s xs)
searched xs s (Ok at) rising within found = record {
  within = within;
  is = (λ (d : Tally). equal_ids (get_or xs at d).segment s (found d));
}
searched xs s (Err i) rising within found =
    let parts = found (searchable_from_sorted nat_cmp_total (λ (y : Tally). y.segment) xs s (sorted xs rising)) in
    absent_by_place xs s (λ (k : ℕ) (d : Tally) (lt : k < length xs) (is : (get_or xs k d).segment ≡ s).
    away parts k d lt is)
  where
    away : ((k : ℕ) (d : Tally) → 0 ≤ k → k < i → nat_cmp (get_or xs k d).segment s ≡ Less)
        × ((k : ℕ) (d : Tally) → i ≤ k → k < length xs → nat_cmp (get_or xs k d).segment s ≡ Greater)
        → (k : ℕ) (d : Tally) → k < length xs → (get_or xs k d).segment ≡ s → ⊥
    away parts k d lt is = (let not_below : i ≤ k = omega (arith, under) in over not_below)
      where
        under : k < i → ⊥
        under below = (let less = less_ids (get_or xs k d).segment s (parts.0 k d (omega arith) below) in
            omega (arith, less, is))

        over : i ≤ k → ⊥
        over above = (let more = greater_ids (get_or xs k d).segment s (parts.1 k d above lt) in omega
            (arith, more, is))

-- the same, of the place alone
pub placed : (xs : List Tally) (s : ℕ) (r : Result ℕ ℕ) (o : Option ℕ) → o ≡ result_ok r
    → MatchResult r (λ (at : ℕ). IsPlaceOf xs s at) (λ (_ : ℕ). HasNo s xs)
    → IfSome o (IsPlaceOf xs s) × IfNone o (HasNo s xs)
placed xs s (Ok at) o is found = rw is (found, tt)
placed xs s (Err at) o is found = rw is (tt, found)
