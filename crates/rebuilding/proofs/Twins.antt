-- Segments with one id.
use Rattle.std.proofs.Common.{◌≡◌, ◌≢◌, ℕ, ◌+◌, ◌*◌, ◌/◌, ◌%◌, ◌<◌, ◌≤◌, List, [], length, get_or, Some, reverse}
use Rattle.std.proofs.Common.{refl, sym, ap, subst, ◌∙◌, inl, inr, arith}
use Rattle.std.specs.Prelude.{slice_index}
use Rattle.std.specs.List.{range_with_len}
use Rattle.std.proofs.lemmas.List.{length-map, get_or_default}
use Rattle.std.proofs.lemmas.List.Sorted.{IsPermutation-reverse, IsPermutation-sym}
use Rattle.std.proofs.lemmas.Nat.{div_below}
use Rattle.std.proofs.Math.Nat.{mul-div_cancel, mul-mod_left}
use Rattle.entry.specs.declared.entry.Entry.{Entry}
use Rattle.entry.specs.declared.entry.Header.{Header}
use Rattle.entry.specs.Bag.{IsAmong}
use Rattle.entry.specs.Text.{header_of}
use Rattle.entry.proofs.BagLemmas.{among_place, among_permutation}
use Rattle.tablet_will.specs.declared.part.Part.{Part}
use Rattle.tablet_will.specs.Parts.{partitions_of}
use Rattle.rebuilding.specs.Rebuilds.{header_id, id_of, ids_of, count_of, AreApart, IsDouble, IsGroup, IsLeftOut}
use Rattle.rebuilding.specs.Rebuilds.{IsShortOfMemory, NamesEach}
use Rattle.rebuilding.specs.Turns.{AreTwins, IsOmitted, IsTwice, NamesAll}
use Rattle.claims.proofs.Members.{same_or_not, among_range, range_among, map_at}
use Rattle.rebuilding.proofs.Wholes.{apart_ways, row_inside}

-- ---- looking through the ids

-- the first ids are at most the greatest, and differ
pub record IsLooking (ids : List ℕ) (at greatest : ℕ) : Type 0 where
  pub most : (i : ℕ) → i < at → slice_index ids i ≤ greatest
  pub once : (i j : ℕ) → i < j → j < at → slice_index ids i ≢ slice_index ids j

pub looked_first : (ids : List ℕ) (greatest : ℕ) → IsLooking ids 0 greatest
looked_first ids greatest = record {
  most = λ i low. absurd (omega (arith, low));
  once = λ i j low below. absurd (omega (arith, below));
}

pub looked_all : (ids : List ℕ) (at greatest : ℕ) → length ids ≤ at → IsLooking ids at greatest → AreApart ids
looked_all ids at greatest end h i j low below = h.once i j low (omega (arith, end, below))

module _ (ids : List ℕ) (at greatest : ℕ) (h : IsLooking ids at greatest) where
  -- an id that differs from those before it
  once_more : ((i : ℕ) → i < at → slice_index ids i ≢ slice_index ids at) → (i j : ℕ) → i < j → j < at + 1
      → slice_index ids i ≢ slice_index ids j
  once_more new i j low below same =
      same_or_not j at ⊥
      (λ e. new i (subst (λ m. i < m) e low) (same ∙ ap (λ m. slice_index ids m) e))
      (λ ne. h.once i j low (omega (arith, below, ne)) same)

  pub looked_above : greatest < slice_index ids at → IsLooking ids (at + 1) (slice_index ids at)
  looked_above above = record {
    most = λ i low.
        same_or_not i at (slice_index ids i ≤ slice_index ids at)
        (λ e. let same : slice_index ids i ≡ slice_index ids at = ap (λ m. slice_index ids m) e in omega (arith, same))
        (λ ne. let most = h.most i (omega (arith, low, ne)) in omega (arith, most, above));
    once = once_more (λ i low same. let most = h.most i low in omega (arith, most, above, same));
  }

  pub looked_new : slice_index ids at ≤ greatest → ((i : ℕ) → i < at → slice_index ids i ≢ slice_index ids at)
      → IsLooking ids (at + 1) greatest
  looked_new below new = record {
    most = λ i low.
        same_or_not i at (slice_index ids i ≤ greatest)
        (λ e. let same : slice_index ids i ≡ slice_index ids at = ap (λ m. slice_index ids m) e in
        omega (arith, same, below))
        (λ ne. h.most i (omega (arith, low, ne)));
    once = once_more new;
  }

-- ---- twins

pub twins_here : (ids : List ℕ) (first second id : ℕ) → first < second → second < length ids
    → slice_index ids first ≡ id → slice_index ids second ≡ id → AreTwins ids first second
twins_here ids first second id apart within one other =
    record { apart = apart; within = within; same = one ∙ sym other }

-- the id of the segment at this place is that in its header
pub id_here : (segments : List (List Entry)) (at : ℕ) (es : List Entry) (h : Header) → at < length segments
    → es ≡ get_or segments at es → header_of es ≡ Some h → h.segment ≡ slice_index (ids_of segments) at
id_here segments at es h lt is has =
    sym (map_at id_of segments at [] ∙ ap id_of (get_or_default segments at [] es lt ∙ sym is) ∙ ap header_id has)

module _ (segments : List (List Entry)) (qs : List Part) (order : List ℕ) where
  pub twice_double : (n : ℕ) → IsTwice (count_of segments qs) order n
      → IsDouble segments qs order (slice_index (ids_of segments) (n / partitions_of qs))
  twice_double n h =
      let id = slice_index (ids_of segments) (n / partitions_of qs) in
      let part = n % partitions_of qs in
      let here : IsGroup segments qs n id part = record { below = h.below; has_id = refl; has_partition = refl } in
      record {
        first = h.first;
        second = h.second;
        partition = part;
        apart = h.apart;
        within = h.within;
        one = subst (λ m. IsGroup segments qs m id part) (sym h.one) here;
        other = subst (λ m. IsGroup segments qs m id part) (sym h.other) here;
      }

  pub omitted_left : (n : ℕ) → IsOmitted (count_of segments qs) order n
      → IsLeftOut segments qs order (slice_index (ids_of segments) (n / partitions_of qs))
  omitted_left n h =
      record { number = n; below = h.below; segment = refl; missing = h.missing; lowest = h.lowest }

  -- the group with this number is missing
  pub segment_low : (n : ℕ) → 0 < partitions_of qs → n < count_of segments qs
      → n / partitions_of qs < length segments
  segment_low n some lt = div_below n (partitions_of qs) (length segments) some lt

  module _ (some : 0 < partitions_of qs) where
    -- the first group of a segment is named
    named : (i : ℕ) → IsAmong (i * partitions_of qs) order
        → (k : ℕ) × (k < length order) × (slice_index order k ≡ i * partitions_of qs)
    named i among =
        let at = among_place (i * partitions_of qs) order among in
        (at.0, at.1, get_or_default order at.0 0 (i * partitions_of qs) at.1 ∙ at.2)

    group_of : (i id n : ℕ) → i < length segments → slice_index (ids_of segments) i ≡ id
        → n ≡ i * partitions_of qs → IsGroup segments qs n id 0
    group_of i id n lt has is = subst (λ m. IsGroup segments qs m id 0) (sym is) (record {
      below = row_inside i (length segments) (partitions_of qs) some lt;
      has_id = ap (λ m. slice_index (ids_of segments) m) (mul-div_cancel i some) ∙ has;
      has_partition = mul-mod_left i (partitions_of qs);
    })

    module _ (first second : ℕ) (h : AreTwins (ids_of segments) first second) where
      abbrev low : Type 0
      low = (first < length segments) × (second < length segments)

      pub twins_low : low
      twins_low =
          let long : length (ids_of segments) ≡ length segments = length-map segments id_of in
          let within = h.within in
          let apart = h.apart in
          (omega (arith, long, within, apart), omega (arith, long, within))

      pub twin_double : IsAmong (first * partitions_of qs) order → IsAmong (second * partitions_of qs) order
          → IsDouble segments qs order (slice_index (ids_of segments) first)
      twin_double has_first has_second =
          let p = partitions_of qs in
          let id = slice_index (ids_of segments) first in
          let apart = h.apart in
          let one = named first has_first in
          let other = named second has_second in
          let differ : one.0 ≢ other.0 =
          λ e. let same : first * p ≡ second * p =
          sym one.2 ∙ ap (λ k. slice_index order k) e ∙ other.2 in
          let numbers : first ≡ second =
          sym (mul-div_cancel first some) ∙ ap (λ n. n / p) same ∙ mul-div_cancel second some in
          omega (arith, numbers, apart) in
          let a = group_of first id (slice_index order one.0) twins_low.0 refl one.2 in
          let b = group_of second id (slice_index order other.0) twins_low.1 (sym h.same) other.2 in
          elim (apart_ways one.0 other.0 differ) [
            | inl before ↦ record {
              first = one.0;
              second = other.0;
              partition = 0;
              apart = before;
              within = other.1;
              one = a;
              other = b;
            }
            | inr after ↦ record {
              first = other.0;
              second = one.0;
              partition = 0;
              apart = after;
              within = one.1;
              one = b;
              other = a;
            }
          ]

      pub all_double : NamesAll (count_of segments qs) order
          → IsDouble segments qs order (slice_index (ids_of segments) first)
      all_double names = twin_double
          (names.each (first * partitions_of qs) (row_inside first (length segments) (partitions_of qs) some
          twins_low.0))
          (names.each (second * partitions_of qs) (row_inside second (length segments) (partitions_of qs) some
          twins_low.1))

  -- ---- want of memory

  pub short_all : NamesAll (count_of segments qs) order → AreApart (ids_of segments)
      → IsShortOfMemory segments qs order
  short_all names apart = record { below = names.below; apart = λ each. apart }

  pub short_named : NamesEach (count_of segments qs) order → AreApart (ids_of segments)
      → IsShortOfMemory segments qs order
  short_named names apart = record { below = names.below; apart = λ each. apart }

  pub short_apart : ((n : ℕ) → IsAmong n order → n < count_of segments qs) → AreApart (ids_of segments)
      → IsShortOfMemory segments qs order
  short_apart below apart = record { below = below; apart = λ each. apart }

  -- the order leaves out the first group of a segment
  pub short_without : (at : ℕ) → 0 < partitions_of qs → at < length segments
      → ((n : ℕ) → IsAmong n order → n < count_of segments qs) → ¬ IsAmong (at * partitions_of qs) order
      → IsShortOfMemory segments qs order
  short_without at some lt below missing = record {
    below = below;
    apart = λ names. absurd (missing (names.each (at * partitions_of qs)
        (row_inside at (length segments) (partitions_of qs) some lt)));
  }

pub all_of : (count : ℕ) (order : List ℕ) → NamesEach count order → NamesAll count order
all_of count order names = record { below = names.below; each = names.each }

-- ---- orders that name each group

pub names_forward : (count : ℕ) → NamesAll count (range_with_len 0 count)
names_forward count = record {
  below = λ n m. let low = among_range 0 count n m in omega (arith, low);
  each = λ n lt. range_among 0 count n n lt (omega arith);
}

pub names_reverse : (count : ℕ) → NamesAll count (reverse (range_with_len 0 count))
names_reverse count =
    let numbers = range_with_len 0 count in
    let turned = IsPermutation-reverse numbers in record {
      below = λ n m.
          let low = among_range 0 count n
          (among_permutation n (reverse numbers) numbers (IsPermutation-sym _ (reverse numbers) turned) m) in
          omega (arith, low);
      each = λ n lt. among_permutation n numbers (reverse numbers) turned
          (range_among 0 count n n lt (omega arith));
    }
