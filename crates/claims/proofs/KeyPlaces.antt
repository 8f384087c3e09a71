-- The order of keys and that of their places.
use Rattle.std.proofs.Common.{◌≡◌, ◌≢◌, ℕ, zero, suc, ◌+◌, ◌-◌, ◌*◌, ◌^◌, ◌<◌, ◌≤◌, List, [], ◌∷◌, ◌++◌, length, take}
use Rattle.std.proofs.Common.{replicate}
use Rattle.std.proofs.Common.{false, refl, sym, ap, subst, ◌∙◌, inl, inr, arith}
use Rattle.std.specs.Prelude.{slice_index, ◌==◌}
use Rattle.std.specs.Cmp.Lexicographic.{slice_cmp, nat_list_cmp_total}
use Rattle.std.specs.Cmp.{nat_cmp_total}
use Rattle.std.specs.Ordering.{nat_cmp, ordering_then, ordering_reverse, MatchOrdering}
use Rattle.std.specs.declared.cmp.Ordering.{Ordering}
use Rattle.std.specs.declared.cmp.Ordering.TheVariants.{Less, Equal, Greater}
use Rattle.std.proofs.lemmas.Bool.{cases_lt}
use Rattle.std.proofs.lemmas.Bool.Decides.{eqb_tells}
use Rattle.std.proofs.lemmas.Cmp.{ranked, tied_itself}
use Rattle.std.proofs.lemmas.List.{get_or-take, get_or_past, get_or_append_left, get_or-append_right, get_or-replicate}
use Rattle.std.proofs.Math.Nat.{mul-le-mul_right, add-mul}
use Rattle.byteorder.specs.Endian.{big_from}
use Rattle.byteorder.specs.Numbers.{big_from-cons, big_from-lt}
use Rattle.entry.specs.Key.{IsBytes, place_of}
use Rattle.entry.specs.Order.{key_cmp, key_eq}
use Rattle.entry.proofs.KeyOrder.{key_eq_tells}
use Rattle.entry.specs.declared.key.Key.{Key}

-- no bytes give no number
big_none : (i n : ℕ) → big_from i n [] ≡ 0
big_none i zero = refl
big_none i (suc n) = omega (arith, big_none (suc i) n)

IsBytes-tail : (x : ℕ) (xs : List ℕ) → IsBytes (x ∷ xs) → IsBytes xs
IsBytes-tail x xs each i = each (suc i)

-- the first byte decides, or the others do
module _ (n x y : ℕ) (xs ys : List ℕ) (each : IsBytes ys)
    (lt : big_from 0 (suc n) (x ∷ xs) < big_from 0 (suc n) (y ∷ ys))
    (later : big_from 0 n xs < big_from 0 n ys → slice_cmp nat_cmp xs ys ≡ Less) where
  number : (b : ℕ) (bs : List ℕ) → big_from 0 (suc n) (b ∷ bs) ≡ b * 256 ^ n + big_from 0 n bs
  number b bs = ap (λ (r : ℕ). b * 256 ^ n + r) (big_from-cons 0 n b bs)

  by_first : (o : Ordering) → MatchOrdering o (x < y) (x ≡ y) (y < x) → ordering_then o (slice_cmp nat_cmp xs ys) ≡ Less
  by_first Less at = refl
  by_first Equal at =
      let same : x * 256 ^ n ≡ y * 256 ^ n = ap (λ (b : ℕ). b * 256 ^ n) at in
      later (omega (arith, lt, number x xs, number y ys, same))
  by_first Greater at =
      let over : (y + 1) * 256 ^ n ≤ x * 256 ^ n = mul-le-mul_right (256 ^ n) (omega (arith, at)) in
      let spread : (y + 1) * 256 ^ n ≡ y * 256 ^ n + 1 * 256 ^ n = add-mul y 1 (256 ^ n) in
      let below = big_from-lt 0 n ys each in
      absurd (omega (arith, lt, number x xs, number y ys, over, spread, below))

-- the lower number is of the lower bytes
lower : (n : ℕ) (xs ys : List ℕ) → IsBytes ys → big_from 0 n xs < big_from 0 n ys → slice_cmp nat_cmp xs ys ≡ Less
lower zero xs ys each lt = absurd (omega (arith, lt))
lower (suc n) [] [] each lt = absurd (omega (arith, lt))
lower (suc n) [] (y ∷ ys) each lt = refl
lower (suc n) (x ∷ xs) [] each lt = absurd (omega (arith, lt, big_none 0 (suc n)))
lower (suc n) (x ∷ xs) (y ∷ ys) each lt =
    by_first n x y xs ys (IsBytes-tail y ys each) lt (lower n xs ys (IsBytes-tail y ys each)) (nat_cmp x y)
    (ranked x y (nat_cmp x y) refl)

-- ---- places

-- a byte of the padded ones
padded : (bs : List ℕ) (i : ℕ) → i < 8 → slice_index (take 8 (bs ++ replicate 8 0)) i ≡ slice_index bs i
padded bs i lt =
    elim (cases_lt i (length bs)) [
      | inl inside ↦ get_or-take 8 (bs ++ replicate 8 0) i 0 lt ∙ get_or_append_left bs (replicate 8 0) 0 i inside
      | inr past ↦
          get_or-take 8 (bs ++ replicate 8 0) i 0 lt
          ∙ get_or-append_right bs (replicate 8 0) (length bs) i 0 refl past
          ∙ get_or-replicate 8 (i - length bs) 0 0 (omega (arith, lt))
          ∙ sym (get_or_past bs i 0 past)
    ]

-- the place is the number in the first eight bytes
place_is : (bs : List ℕ) → place_of bs ≡ big_from 0 8 bs
place_is bs = omega (
  arith,
  padded bs 0 (omega arith),
  padded bs 1 (omega arith),
  padded bs 2 (omega arith),
  padded bs 3 (omega arith),
  padded bs 4 (omega arith),
  padded bs 5 (omega arith),
  padded bs 6 (omega arith),
  padded bs 7 (omega arith),
)

places_rise : (xs ys : List ℕ) → IsBytes ys → place_of xs < place_of ys → slice_cmp nat_cmp xs ys ≡ Less
places_rise xs ys each lt = lower 8 xs ys each (omega (arith, lt, place_is xs, place_is ys))

-- of one table the places decide, if they differ
pub by_place : (a b : Key) → IsBytes a.bytes → IsBytes b.bytes → a.table ≡ b.table → place_of a.bytes ≢ place_of b.bytes
    → nat_cmp (place_of a.bytes) (place_of b.bytes) ≡ key_cmp a b
by_place a b each other same differ =
    decided (nat_cmp (place_of a.bytes) (place_of b.bytes)) (ranked (place_of a.bytes) (place_of b.bytes) _ refl)
  where
    table : nat_cmp a.table b.table ≡ Equal
    table = subst (λ (t : ℕ). nat_cmp a.table t ≡ Equal) same (tied_itself nat_cmp_total a.table)

    decided : (o : Ordering) → MatchOrdering o (place_of a.bytes < place_of b.bytes)
        (place_of a.bytes ≡ place_of b.bytes)
        (place_of b.bytes < place_of a.bytes) → o ≡ key_cmp a b
    decided Less at = rw (table, places_rise a.bytes b.bytes other at) refl
    decided Equal at = absurd (differ at)
    decided Greater at =
        let back : slice_cmp nat_cmp a.bytes b.bytes ≡ Greater =
        nat_list_cmp_total.antisymm a.bytes b.bytes ∙ ap ordering_reverse (places_rise b.bytes a.bytes each at) in
        rw (table, back) refl

-- two keys with different places are not the same
pub differ_by_place : (a b : Key) → place_of a.bytes ≢ place_of b.bytes → key_eq a b ≡ false
differ_by_place a b differ =
    elim (key_eq_tells a b) [
      | inl both ↦ absurd (differ (ap (λ (k : Key). place_of k.bytes) both.1))
      | inr both ↦ both.0
    ]

-- two numbers that differ
pub differing : (x y : ℕ) → x ≢ y → (x == y) ≡ false
differing x y differ =
    elim (eqb_tells x y) [
      | inl both ↦ absurd (differ both.1)
      | inr both ↦ both.0
    ]
