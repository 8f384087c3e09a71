-- A log that can be rebuilt is refused for memory alone.
use Rattle.std.proofs.Common.{◌≡◌, ◌≢◌, ℕ, zero, suc, ◌+◌, ◌*◌, ◌/◌, ◌%◌, ◌<◌, ◌≤◌, true, false, List, length, get_or}
use Rattle.std.proofs.Common.{refl, sym, ap, subst, ◌∙◌, ◌⊎◌, inl, inr, arith}
use Rattle.std.specs.Prelude.{◌==◌, Bool, is_some, Option}
use Rattle.std.specs.List.{IsDistinct, range_with_len}
use Rattle.std.proofs.lemmas.Bool.Decides.{Decides-eqb}
use Rattle.std.proofs.lemmas.List.{length-map}
use Rattle.std.proofs.lemmas.List.Sorted.{IsPermutation-sym}
use Rattle.std.proofs.lemmas.Map.Keys.{IsDistinct-IsPermutation, apart_from_distinct}
use Rattle.std.proofs.lemmas.Nat.{div_below, div-add-mod', mod_below}
use Rattle.entry.specs.declared.entry.Entry.{Entry}
use Rattle.entry.specs.Bag.{IsAmong}
use Rattle.entry.proofs.BagLemmas.{among_permutation}
use Rattle.entry.proofs.ListLemmas.{all_from_among}
use Rattle.tablet_will.specs.declared.part.Part.{Part}
use Rattle.tablet_will.specs.Parts.{partitions_of, partition_of_key}
use Rattle.claims.specs.declared.fault.ReplayFault.{ReplayFault}
use Rattle.claims.specs.declared.fault.ReplayFault.TheVariants as fault
use Rattle.claims.specs.Rebuilt.{IsRefusal}
use Rattle.rebuilding.specs.Rebuilds.{id_of, ids_of, count_of, IsDouble, IsRebuildFault, CanBeRebuilt}
use Rattle.rebuilding.specs.Rebuilds.{IsShortOfMemory}
use Rattle.claims.proofs.Members.{same_or_not}
use Rattle.claims.proofs.Members.{among_range, range_among}

abbrev equal : ℕ → ℕ → Bool
equal a b = a == b

range_low : (a n m : ℕ) → IsAmong m (range_with_len a n) → a ≤ m
range_low a zero m h = absurd h
range_low a (suc n) m (inl e) = omega (arith, e)
range_low a (suc n) m (inr h) = let low = range_low (a + 1) n m h in omega (arith, low)

differ : (a b : ℕ) → a ≢ b → (a == b) ≡ false
differ a b ne = by_test (a == b) refl
  where
    by_test : (t : Bool) → (a == b) ≡ t → t ≡ false
    by_test true e = absurd (ne ((Decides-eqb a b).0 e))
    by_test false e = refl

range_distinct : (a n : ℕ) → IsDistinct equal (range_with_len a n)
unfolding IsDistinct
range_distinct a zero = tt
range_distinct a (suc n) = (
  all_from_among (λ m. equal a m ≡ false) (range_with_len (a + 1) n)
      (λ m h. let low = range_low (a + 1) n m h in differ a m (λ e. omega (arith, low, e))),
  range_distinct (a + 1) n,
)

flips : (a b : ℕ) → equal a b ≡ equal b a
flips a b = by_test (a == b) refl
  where
    by_test : (t : Bool) → (a == b) ≡ t → t ≡ equal b a
    by_test true e = sym ((Decides-eqb b a).1 (sym ((Decides-eqb a b).0 e)))
    by_test false e =
        sym (differ b a (λ same. let on : (a == b) ≡ true = (Decides-eqb a b).1 (sym same) in absurd (cc)))

pub apart_ways : (i j : ℕ) → i ≢ j → (i < j) ⊎ (j < i)
apart_ways zero zero ne = absurd (ne refl)
apart_ways zero (suc j) ne = inl (omega arith)
apart_ways (suc i) zero ne = inr (omega arith)
apart_ways (suc i) (suc j) ne =
    elim (apart_ways i j (λ e. ne (ap suc e))) [
      | inl low ↦ inl (omega (arith, low))
      | inr high ↦ inr (omega (arith, high))
    ]

module _ (ns : List ℕ) (distinct : IsDistinct equal ns) where
  twice : (i j : ℕ) → i < j → j < length ns → get_or ns i 0 ≡ get_or ns j 0 → ⊥
  twice i j low within same =
      let off : equal (get_or ns i 0) (get_or ns j 0) ≡ false =
      apart_from_distinct equal ns i j 0 distinct low within in
      let on : (get_or ns i 0 == get_or ns j 0) ≡ true = (Decides-eqb (get_or ns i 0) (get_or ns j 0)).1 same in cc

  one_place : (i j : ℕ) → i < length ns → j < length ns → get_or ns i 0 ≡ get_or ns j 0 → i ≡ j
  one_place i j first second same =
      same_or_not i j (i ≡ j) (λ e. e) (λ ne. elim (apart_ways i j ne) [
        | inl low ↦ absurd (twice i j low second same)
        | inr high ↦ absurd (twice j i high first (sym same))
      ])

-- the first number of a row of p is below that of all rows
pub row_inside : (i m p : ℕ) → 0 < p → i < m → i * p < m * p
row_inside i m zero some lt = absurd (omega (arith, some))
row_inside i zero (suc p) some lt = absurd (omega (arith, lt))
row_inside zero (suc m) (suc p) some lt = omega arith
row_inside (suc i) (suc m) (suc p) some lt =
    let less = row_inside i m (suc p) some (omega (arith, lt)) in omega (arith, less)

-- rows that are no more than others have no more
pub row_most : (i m p : ℕ) → i ≤ m → i * p ≤ m * p
row_most zero m p le = omega arith
row_most (suc i) zero p le = absurd (omega (arith, le))
row_most (suc i) (suc m) p le = let less = row_most i m p (omega (arith, le)) in omega (arith, less)

-- a number whose row is one of these is in them
pub row_below : (n m p : ℕ) → 0 < p → n / p < m → n < m * p
row_below n m p some lt =
    let rest = mod_below n p some in
    let whole = div-add-mod' n p in
    let next : (n / p + 1) * p ≡ n / p * p + p = omega arith in
    let most = row_most (n / p + 1) m p (omega (arith, lt)) in omega (arith, rest, whole, next, most)

-- a number whose row is none of these is behind them
pub row_behind : (n m p : ℕ) → m ≤ n / p → m * p ≤ n
row_behind n m p le =
    let whole = div-add-mod' n p in
    let most = row_most m (n / p) p le in omega (arith, whole, most)

positive : (n m p : ℕ) → n < m * p → 0 < p
positive n m zero lt = absurd (omega (arith, lt))
positive n m (suc p) lt = omega arith

module _ (segments : List (List Entry)) (qs : List Part) (order : List ℕ) (can : CanBeRebuilt segments qs order) where
  no_double : (id : ℕ) → IsDouble segments qs order id → ⊥
  no_double id h =
      let p = partitions_of qs in
      let one = get_or order h.first 0 in
      let other = get_or order h.second 0 in
      let some = positive one (length segments) p h.one.below in
      let long : length (ids_of segments) ≡ length segments = length-map segments id_of in
      let first = subst (λ n. one / p < n) (sym long) (div_below one p (length segments) some h.one.below) in
      let second = subst (λ n. other / p < n) (sym long) (div_below other p (length segments) some h.other.below) in
      let same : one / p ≡ other / p =
      one_place (ids_of segments) can.ids (one / p) (other / p) first second (h.one.has_id ∙ sym h.other.has_id) in
      let rest : one % p ≡ other % p = h.one.has_partition ∙ sym h.other.has_partition in
      let number : one ≡ other =
      sym (div-add-mod' one p) ∙ (λ i. same i * p + rest i) ∙ div-add-mod' other p in
      twice order (IsDistinct-IsPermutation equal flips (range_with_len 0 (count_of segments qs)) order can.whole
      (range_distinct 0 (count_of segments qs))) h.first h.second h.apart h.within number

  pub only_memory : (f : ReplayFault) → IsRebuildFault segments qs order f → f ≡ fault.NoMemory
  only_memory (fault.Double id) h = absurd (no_double id h)
  only_memory fault.Stranger h =
      let lt = among_range 0 (count_of segments qs) h.0
      (among_permutation h.0 order (range_with_len 0 (count_of segments qs))
      (IsPermutation-sym _ order can.whole) h.1) in
      let le = h.2 in absurd (omega (arith, lt, le))
  only_memory (fault.MissingGroup id) h =
      absurd (h.missing (among_permutation h.number (range_with_len 0 (count_of segments qs)) order can.whole
      (range_among 0 (count_of segments qs) h.number h.number h.below (omega arith))))
  only_memory fault.NoMemory h = refl
  only_memory fault.Clash h = absurd (h can.clean)
  only_memory (fault.Stray k) h =
      let on : is_some (partition_of_key qs k) ≡ true = can.covered h.0 h.1 k h.2.0 in
      let off : is_some (partition_of_key qs k) ≡ false = ap (λ (o : Option ℕ). is_some o) h.2.1 in
      absurd (cc)

pub refusal_fault : (segments : List (List Entry)) (qs : List Part) (order : List ℕ)
    → IsShortOfMemory segments qs order → (f : ReplayFault) → IsRefusal segments f → IsRebuildFault segments qs order f
refusal_fault segments qs order short (fault.Double id) h = absurd h
refusal_fault segments qs order short fault.Stranger h = absurd h
refusal_fault segments qs order short (fault.MissingGroup id) h = absurd h
refusal_fault segments qs order short fault.NoMemory h = short
refusal_fault segments qs order short fault.Clash h = h
refusal_fault segments qs order short (fault.Stray k) h = absurd h
