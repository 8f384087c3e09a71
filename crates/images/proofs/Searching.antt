-- A binary search for an id.
use Rattle.std.proofs.Common.{◌≡◌, ℕ, zero, suc, ◌<◌, ◌≤◌, ◌-◌, false, List, [], ◌∷◌, length, get_or, refl, ap, subst}
use Rattle.std.proofs.Common.{arith, add-one}
use Rattle.std.specs.Prelude.{Option, None, Result, Ok, Err, IfSome, IfNone, MatchResult}
use Rattle.std.specs.List.Sorted.{IsBinarySearchResult, IsSearchInRange, IsSortedBy}
use Rattle.std.specs.Ordering.{nat_cmp, is_lt, MatchOrdering}
use Rattle.std.specs.declared.cmp.Ordering.{Ordering}
use Rattle.std.specs.declared.cmp.Ordering.TheVariants.{Less, Equal, Greater}
use Rattle.std.specs.Result.{result_ok}
use Rattle.std.proofs.lemmas.Cmp.{nat_cmp_total, ranked}
use Rattle.std.proofs.lemmas.List.{get_or_default}
use Rattle.std.proofs.lemmas.List.Sorted.{searchable_from_sorted}
use Rattle.images.specs.Image.{Image}
use Rattle.images.specs.Sorted.{AreRising, image_of}
use Rattle.images.specs.Place.{IsPlaceOf}
use Rattle.images.proofs.Adding.{ids_rise}
use Rattle.images.proofs.Listing.{all_at, IsAbsent, image_absent}

-- each id is below the next
below_next : (xs : List Image) (k : ℕ) (d : Image) → AreRising xs → suc k < length xs
    → (get_or xs k d).id < (get_or xs (suc k) d).id
below_next [] k d rising lt = absurd (omega arith)
below_next (x ∷ xs) zero d rising lt = all_at (λ (other : Image). x.id < other.id) xs zero d rising.0 (omega arith)
below_next (x ∷ xs) (suc k) d rising lt = below_next xs k d rising.1 (omega arith)

not_less : (a b : ℕ) → a < b → is_lt (nat_cmp b a) ≡ false
not_less a b lt = go (nat_cmp b a) (ranked b a (nat_cmp b a) refl)
  where
    go : (o : Ordering) → MatchOrdering o (b < a) (b ≡ a) (a < b) → is_lt o ≡ false
    go Less is = absurd (omega arith)
    go Equal is = refl
    go Greater is = refl

sorted : (xs : List Image) → AreRising xs → IsSortedBy (λ (a b : Image). is_lt (nat_cmp a.id b.id)) xs
sorted xs rising k d low lt = rw add-one (not_less (get_or xs k d).id (get_or xs (suc k) d).id
    (below_next xs k d rising (omega arith)))

equal_ids : (a b : ℕ) → nat_cmp a b ≡ Equal → a ≡ b
equal_ids a b is = subst (λ (o : Ordering). MatchOrdering o (a < b) (a ≡ b) (b < a)) is (ranked a b (nat_cmp a b) refl)

less_ids : (a b : ℕ) → nat_cmp a b ≡ Less → a < b
less_ids a b is = subst (λ (o : Ordering). MatchOrdering o (a < b) (a ≡ b) (b < a)) is (ranked a b (nat_cmp a b) refl)

greater_ids : (a b : ℕ) → nat_cmp a b ≡ Greater → b < a
greater_ids a b is = subst (λ (o : Ordering). MatchOrdering o (a < b) (a ≡ b) (b < a)) is
    (ranked a b (nat_cmp a b) refl)

-- none has the id where each place has another one
absent_by_place : (xs : List Image) (id : ℕ) → ((k : ℕ) (d : Image) → k < length xs → (get_or xs k d).id ≡ id
    → ⊥) → IsAbsent xs id
absent_by_place [] id other = tt
absent_by_place (x ∷ xs) id other = (
  other zero x (omega arith),
  absent_by_place xs id (λ (k : ℕ) (d : Image) (lt : k < length xs). other
      (suc k) d (omega arith)),
)

-- none has an id that is above those before a place, and below those from there on
pub absent_between : (xs : List Image) (id at : ℕ) (a b : Image) → AreRising xs → at < length xs
    → id < (get_or xs at a).id
    → ((at ≡ 0 → ⊥) → (get_or xs (at - 1) b).id < id) → image_of xs id ≡ None
absent_between xs id at a b rising within above below = image_absent xs id (absent_by_place xs id away)
  where
    away : (k : ℕ) (d : Image) → k < length xs → (get_or xs k d).id ≡ id → ⊥
    away k d lt is = (let not_below : at ≤ k = omega (arith, before) in from not_below)
      where
        before : k < at → ⊥
        before under =
            let last = ap (λ (x : Image). x.id) (get_or_default xs (at - 1) b d (omega arith)) in
            let low = below (λ none. omega (arith, none)) in
            omega (arith, last, low, is, ids_rise xs rising k (at - 1) d (omega arith) (omega arith))

        from : at ≤ k → ⊥
        from over =
            let first = ap (λ (x : Image). x.id) (get_or_default xs at a d within) in
            omega (arith, first, above, is, ids_rise xs rising at k d over lt)

-- what the search found, or that there is none
pub searched : (xs : List Image) (id : ℕ) (r : Result ℕ ℕ) → AreRising xs → IsSearchInRange r (length xs)
    → IsBinarySearchResult (λ (y : Image). nat_cmp y.id id) xs r
    → MatchResult r (λ (at : ℕ). IsPlaceOf xs id at) (λ (_ : ℕ). image_of xs id ≡ None)
searched xs id (Ok at) rising within found = record {
  within = within;
  is = (λ (d : Image). equal_ids (get_or xs at d).id id (found d));
}
searched xs id (Err i) rising within found =
    let parts = found (searchable_from_sorted nat_cmp_total (λ (y : Image). y.id) xs id (sorted xs rising)) in
    image_absent xs id (absent_by_place xs id (λ (k : ℕ) (d : Image) (lt : k < length xs) (is : (get_or xs k d).id
    ≡ id). away parts k d lt is))
  where
    away : ((k : ℕ) (d : Image) → 0 ≤ k → k < i → nat_cmp (get_or xs k d).id id ≡ Less)
        × ((k : ℕ) (d : Image) → i ≤ k → k < length xs → nat_cmp (get_or xs k d).id id ≡ Greater)
        → (k : ℕ) (d : Image) → k < length xs → (get_or xs k d).id ≡ id → ⊥
    away parts k d lt is = go (nat_cmp (get_or xs k d).id id) refl
      where
        lower : k < i → ⊥
        lower below = (let less = less_ids (get_or xs k d).id id (parts.0 k d (omega arith) below) in omega arith)

        upper : i ≤ k → ⊥
        upper above = (let more = greater_ids (get_or xs k d).id id (parts.1 k d above lt) in omega arith)

        go : (o : Ordering) → nat_cmp (get_or xs k d).id id ≡ o → ⊥
        go o e = (let not_below : i ≤ k = omega (arith, lower) in upper not_below)

-- the same, of the place alone
pub placed : (xs : List Image) (id : ℕ) (r : Result ℕ ℕ) (o : Option ℕ) → o ≡ result_ok r
    → MatchResult r (λ (at : ℕ). IsPlaceOf xs id at) (λ (_ : ℕ). image_of xs id ≡ None)
    → IfSome o (IsPlaceOf xs id) × IfNone o (image_of xs id ≡ None)
placed xs id (Ok at) o is found = rw is (found, tt)
placed xs id (Err at) o is found = rw is (tt, found)
