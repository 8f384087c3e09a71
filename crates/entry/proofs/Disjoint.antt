-- Tablets that are sorted and disjoint.
use Rattle.std.proofs.Common.{◌≡◌, ℕ, zero, suc, ◌<◌, ◌≤◌, true, List, [], ◌∷◌, Some, refl, ap, subst, arith, inl, inr}
use Rattle.std.specs.Prelude.{◌⊎◌, nat_lt, nat_le, ◌==◌, ◌&&◌}
use Rattle.std.specs.List.{slice_get}
use Rattle.std.proofs.lemmas.Bool.{ltb-true, leb-true, eqb-true, and_parts, or_cases}
use Rattle.std.proofs.lemmas.Option.{same_Some}
use Rattle.entry.specs.declared.key.Key.{Key}
use Rattle.entry.specs.declared.tablet.Tablet.{Tablet}
use Rattle.entry.specs.Key.{place_of}
use Rattle.entry.specs.Tablet.{has_key, is_before, is_tablet, are_in_order, are_tablets}

-- the first ends before the other begins, in numbers
abbrev IsBefore : Tablet → Tablet → Type 0
IsBefore t u = (t.table < u.table) ⊎ ((t.table ≡ u.table) × (t.last < u.first))

is_before_tells : (t u : Tablet) → is_before t u ≡ true → IsBefore t u
is_before_tells t u e =
    elim (or_cases (nat_lt t.table u.table) ((t.table == u.table) && nat_lt t.last u.first) e) [
      | inl less ↦ inl (ltb-true t.table u.table less)
      | inr same ↦ let parts = and_parts (t.table == u.table) (nat_lt t.last u.first) same in
          inr (eqb-true t.table u.table parts.0, ltb-true t.last u.first parts.1)
    ]

-- what lies behind a tablet lies behind all that end before it
later : (t u v : Tablet) → IsBefore t u → is_tablet u ≡ true → IsBefore u v → IsBefore t v
later t u v (inl less) whole (inl more) = inl (omega arith)
later t u v (inl less) whole (inr same) = let table = same.0 in inl (omega arith)
later t u v (inr same) whole (inl more) = let table = same.0 in inl (omega arith)
later t u v (inr before) whole (inr behind) =
    let first = before.0 in
    let second = behind.0 in
    let ends = before.1 in
    let begins = behind.1 in
    inr (omega arith, omega (arith, leb-true u.first u.last whole))

-- no key lies in two tablets of which one ends before the other begins
apart : (t u : Tablet) (k : Key) → IsBefore t u → has_key t k ≡ true → has_key u k ≡ true → ⊥
apart t u k before in_first in_other =
    let first =
    and_parts (t.table == k.table) (nat_le t.first (place_of k.bytes) && nat_le (place_of k.bytes) t.last)
    in_first in
    let other =
    and_parts (u.table == k.table) (nat_le u.first (place_of k.bytes) && nat_le (place_of k.bytes) u.last)
    in_other in
    let within_first = and_parts (nat_le t.first (place_of k.bytes)) (nat_le (place_of k.bytes) t.last) first.1 in
    let within_other = and_parts (nat_le u.first (place_of k.bytes)) (nat_le (place_of k.bytes) u.last) other.1 in
    let first_table : t.table ≡ k.table = eqb-true t.table k.table first.0 in
    let other_table : u.table ≡ k.table = eqb-true u.table k.table other.0 in
    go before (omega arith) (leb-true (place_of k.bytes) t.last within_first.1)
    (leb-true u.first (place_of k.bytes) within_other.0)
  where
    go : IsBefore t u → t.table ≡ u.table → place_of k.bytes ≤ t.last → u.first ≤ place_of k.bytes → ⊥
    go (inl less) same low high = omega arith
    go (inr behind) same low high = let ends = behind.1 in omega arith

first_whole : (t : Tablet) (ts : List Tablet) → are_in_order (t ∷ ts) ≡ true → is_tablet t ≡ true
first_whole t [] order = order
first_whole t (u ∷ us) order = (and_parts (is_tablet t) (is_before t u && are_in_order (u ∷ us)) order).0

next_before : (t u : Tablet) (us : List Tablet) → are_in_order (t ∷ u ∷ us) ≡ true
    → (is_before t u ≡ true) × (are_in_order (u ∷ us) ≡ true)
next_before t u us order =
    and_parts (is_before t u) (are_in_order (u ∷ us)) (and_parts (is_tablet t) (is_before t u && are_in_order (u ∷ us))
    order).1

-- the first ends before each of the others begins
first_before : (t : Tablet) (ts : List Tablet) (j : ℕ) (u : Tablet) → are_in_order (t ∷ ts) ≡ true
    → slice_get ts j ≡ Some u → IsBefore t u
first_before t [] j u order at = absurd (cc)
first_before t (v ∷ vs) zero u order at =
    subst (λ (w : Tablet). IsBefore t w) (same_Some v u at) (is_before_tells t v (next_before t v vs order).0)
first_before t (v ∷ vs) (suc j) u order at =
    let next = next_before t v vs order in
    later t v u (is_before_tells t v next.0) (first_whole v vs next.1) (first_before v vs j u next.1 at)

others_in_order : (t : Tablet) (ts : List Tablet) → are_in_order (t ∷ ts) ≡ true → are_in_order ts ≡ true
others_in_order t [] order = refl
others_in_order t (u ∷ us) order = (next_before t u us order).1

in_one : (ts : List Tablet) (k : Key) (i j : ℕ) (t u : Tablet) → are_in_order ts ≡ true → slice_get ts i ≡ Some t
    → slice_get ts j ≡ Some u
    → has_key t k ≡ true → has_key u k ≡ true → i ≡ j
in_one [] k i j t u order at_i at_j in_t in_u = absurd (cc)
in_one (v ∷ vs) k zero zero t u order at_i at_j in_t in_u = refl
in_one (v ∷ vs) k zero (suc j) t u order at_i at_j in_t in_u =
    absurd (apart v u k (first_before v vs j u order at_j) (rw (same_Some v t at_i) in_t) in_u)
in_one (v ∷ vs) k (suc i) zero t u order at_i at_j in_t in_u =
    absurd (apart v t k (first_before v vs i t order at_i) (rw (same_Some v u at_j) in_u) in_t)
in_one (v ∷ vs) k (suc i) (suc j) t u order at_i at_j in_t in_u =
    ap (λ (n : ℕ). suc n) (in_one vs k i j t u (others_in_order v vs order) at_i at_j in_t in_u)

-- No key lies in two of them.
pub disjoint : (ts : List Tablet) (k : Key) (i j : ℕ) (t u : Tablet) → are_tablets ts ≡ true → slice_get ts i ≡ Some t
    → slice_get ts j ≡ Some u
    → has_key t k ≡ true → has_key u k ≡ true → i ≡ j
disjoint [] k i j t u valid at_i at_j in_t in_u = absurd (cc)
disjoint (v ∷ vs) k i j t u valid at_i at_j in_t in_u = in_one (v ∷ vs) k i j t u valid at_i at_j in_t in_u
