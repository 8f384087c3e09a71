-- What a place leads to among ordered replicas, and what a change at one place is to the others.
use Rattle.std.proofs.Common.{◌≡◌, ℕ, zero, suc, ◌+◌, ◌-◌, ◌<◌, ◌==◌, ◌&&◌, List, [], ◌∷◌, length, get_or, set}
use Rattle.std.proofs.Common.{inl, inr, true, false, cond, Option, Some, None, refl, sym, ◌∙◌, ap, subst, arith}
use Rattle.std.specs.Ordering.{is_eq, is_lt, ordering_reverse, eq_by_cmp, ordering_index}
use Rattle.std.specs.Cmp.{IsEquivalence}
use Rattle.std.specs.declared.cmp.Ordering.{Ordering}
use Rattle.std.specs.declared.cmp.Ordering.TheVariants.{Less, Equal, Greater}
use Rattle.std.specs.BTreeMap.{is_at}
use Rattle.std.specs.List.{AllByRecursion, HoldsAt, insert, remove}
use Rattle.std.specs.List.Sorted.{IsStrictlySortedBy, IsNonDecreasingBy, IsBinarySearchResult, IsSearchInRange}
use Rattle.std.specs.Map.{keys_of, lookup, set_value, remove_entry}
use Rattle.std.specs.Option.{IsSome}
use Rattle.std.specs.Prelude.{Result, Ok, Err, IfOk, IfErr}
use Rattle.std.proofs.lemmas.Bool.{cond-true, cond-false, cases_lt}
use Rattle.std.proofs.lemmas.Cmp.{eq_by_cmp_equiv, tied_itself}
use Rattle.std.proofs.lemmas.List.{get_or_default}
use Rattle.std.proofs.lemmas.List.Sorted.{searchable_from_sorted}
use Rattle.std.proofs.lemmas.Map.{none_passes_from_lookup, lookup-insert, lookup-set_value, lookup-remove_entry}
use Rattle.std.proofs.lemmas.Map.Entries.{lookup_from_place, lookup_at_gap}
use Rattle.std.proofs.lemmas.Map.Keys.{IsDistinct-from_sorted, Less-from_sorted, sorted_tail}
use Rattle.std.proofs.lemmas.Option.{slice_get-get_or, slice_get_within, get_or_from_slice_get}
use Rattle.replica.specs.Picture.{Replica}
use Rattle.backup.specs.Slots.{Place, place_cmp, Slots, AreOrdered, found_in, with_stored, IsAt, IsGapFor}
use Rattle.backup.proofs.Places.{is_eq-place_cmp, place_total, place_exact}

laws : IsEquivalence (eq_by_cmp place_cmp)
laws = eq_by_cmp_equiv place_total

itself : (p : Place) → is_at (place_cmp p) p ≡ true
itself p = ap is_eq (tied_itself place_total p)

turned : (p q : Place) (r : Ordering) → place_cmp p q ≡ r → place_cmp q p ≡ ordering_reverse r
turned p q r is = place_total.antisymm q p ∙ ap ordering_reverse is

-- ---- by index

place_at : (slots : Slots) (i : ℕ) (d : Place × Replica) → get_or (keys_of slots) i d.0 ≡ (get_or slots i d).0
place_at [] i d = refl
place_at (x ∷ xs) zero d = refl
place_at (x ∷ xs) (suc i) d = place_at xs i d

length_places : (slots : Slots) → length (keys_of slots) ≡ length slots
length_places [] = refl
length_places (x ∷ xs) = ap suc (length_places xs)

-- each replica's place is below those of the later ones
pub rises : (slots : Slots) → AreOrdered slots → (i j : ℕ) (d : Place × Replica) → i < j → j < length slots
    → place_cmp (get_or slots i d).0 (get_or slots j d).0 ≡ Less
rises slots ordered i j d before within =
    let e = place_at slots i d in
    let f = place_at slots j d in
    sym (λ k. place_cmp (e k) (f k))
    ∙ Less-from_sorted place_cmp (keys_of slots) i j d.0 ordered before (omega (arith, length_places slots))

-- each replica is found at its place
pub all_found : (slots : Slots) → AreOrdered slots → (i : ℕ) (d : Place × Replica) → i < length slots
    → found_in slots (get_or slots i d).0 ≡ Some (get_or slots i d).1
all_found slots ordered i d within =
    lookup_from_place laws slots i (get_or slots i d).0 (get_or slots i d).1
    (IsDistinct-from_sorted place_cmp (keys_of slots) ordered) (slice_get-get_or slots i d within)

-- ---- where a place is

module _ (slots : Slots) (ordered : AreOrdered slots) (place : Place) (i : ℕ) where
  pub found_at : IsAt slots place i → (d : Place × Replica) → found_in slots place ≡ Some (get_or slots i d).1
  found_at at d = ap (found_in slots) (sym (at.here d)) ∙ all_found slots ordered i d at.within

  pub stored_at : IsAt slots place i → (r : Replica) → HoldsAt (λ slot. slot.1 ≡ r) slots i
      → found_in slots place ≡ Some r
  stored_at at r is = found_at at (place, r) ∙ ap Some (is (place, r))

  pub there : IsAt slots place i → (r : Replica) × (found_in slots place ≡ Some r)
  there at =
      let d : Place × Replica = (place, record { bytes = []; is_open = true }) in
      ((get_or slots i d).1, found_at at d)

  pub none_at : IsGapFor slots place i → found_in slots place ≡ None
  none_at gap = lookup_at_gap place_total place slots i ordered
      (λ j slot before is.
      let within : j < length slots = slice_get_within slots j slot is in
      turned slot.0 place Less
      (ap (λ (x : Place × Replica). place_cmp x.0 place) (sym (get_or_from_slice_get slots j slot slot is))
      ∙ gap.below j slot before))
      (λ slot is.
      let within : i < length slots = slice_get_within slots i slot is in
      turned slot.0 place Greater
      (ap (λ (x : Place × Replica). place_cmp x.0 place) (sym (get_or_from_slice_get slots i slot slot is))
      ∙ gap.above i slot (omega arith) within))

-- in the rest of the list it is one lower
rest_at : (x : Place × Replica) (xs : Slots) (place : Place) (i : ℕ) → IsAt (x ∷ xs) place (suc i) → IsAt xs place i
rest_at x xs place i at = record { within = omega (arith, at.within); here = at.here }

rest_gap : (x : Place × Replica) (xs : Slots) (place : Place) (i : ℕ) → IsGapFor (x ∷ xs) place (suc i)
    → IsGapFor xs place i
rest_gap x xs place i gap = record {
  within = omega (arith, gap.within);
  below = λ k d before. gap.below (suc k) d (omega arith);
  above = λ k d after within. gap.above (suc k) d (omega arith) (omega arith);
}

here_first : (x : Place × Replica) (xs : Slots) (place : Place) → IsAt (x ∷ xs) place 0
    → is_at (place_cmp place) x.0 ≡ true
here_first x xs place at = ap (is_at (place_cmp place)) (at.here x) ∙ itself place

here_later : (x : Place × Replica) (xs : Slots) → AreOrdered (x ∷ xs) → (place : Place) (i : ℕ)
    → IsAt (x ∷ xs) place (suc i)
    → is_at (place_cmp place) x.0 ≡ false
here_later x xs ordered place i at =
    ap is_eq (turned x.0 place Less
    (ap (place_cmp x.0) (sym (at.here x)) ∙ rises (x ∷ xs) ordered 0 (suc i) x (omega arith) at.within))

-- ---- a change at one place

written_at : (slots : Slots) → AreOrdered slots → (place : Place) (i : ℕ) → IsAt slots place i → (w : Replica)
    → with_stored slots i w ≡ set_value (is_at (place_cmp place)) slots w
written_at [] ordered place i at w = refl
written_at (x ∷ xs) ordered place zero at w =
    sym (cond-true (is_at (place_cmp place) x.0) _ _ (here_first x xs place at))
written_at (x ∷ xs) ordered place (suc i) at w =
    ap (λ (ys : Slots). x ∷ ys)
    (written_at xs (sorted_tail place_cmp x.0 (keys_of xs) ordered) place i (rest_at x xs place i at) w)
    ∙ sym (cond-false (is_at (place_cmp place) x.0) _ _ (here_later x xs ordered place i at))

removed_at : (slots : Slots) → AreOrdered slots → (place : Place) (i : ℕ) → IsAt slots place i
    → remove slots i ≡ remove_entry (is_at (place_cmp place)) slots
removed_at [] ordered place i at = absurd (omega (arith, at.within))
removed_at (x ∷ xs) ordered place zero at =
    sym (cond-true (is_at (place_cmp place) x.0) _ _ (here_first x xs place at))
removed_at (x ∷ xs) ordered place (suc i) at =
    ap (λ (ys : Slots). x ∷ ys)
    (removed_at xs (sorted_tail place_cmp x.0 (keys_of xs) ordered) place i (rest_at x xs place i at))
    ∙ sym (cond-false (is_at (place_cmp place) x.0) _ _ (here_later x xs ordered place i at))

-- What one change does: at the place is what it made, and every other place has what it had.
pub record IsOnlyAt (old new : Slots) (place : Place) (made : Option Replica) : Type 0 where
  pub here : found_in new place ≡ made
  pub others : (m s : ℕ) → ((place.0 == m) && (place.1 == s)) ≡ false → found_in new (m, s) ≡ found_in old (m, s)

only_at : (old new : Slots) (place : Place) (made : Option Replica)
    → ((q : Place) → found_in new q ≡ cond (is_at (place_cmp place) q) made (found_in old q))
    → IsOnlyAt old new place made
only_at old new place made each = record {
  here = each place ∙ cond-true (is_at (place_cmp place) place) _ _ (itself place);
  others = λ m s other. each (m, s)
      ∙ cond-false (is_at (place_cmp place) (m, s)) _ _ (is_eq-place_cmp place.0 place.1 m s ∙ other);
}

module _ (slots : Slots) (ordered : AreOrdered slots) (place : Place) (i : ℕ) where
  one : (x y : Place) → is_at (place_cmp place) x ≡ true → is_at (place_cmp place) y ≡ eq_by_cmp place_cmp x y
  one x y here = laws.congr place x y here

  pub written : IsAt slots place i → (w : Replica) → IsOnlyAt slots (with_stored slots i w) place (Some w)
  written at w =
      let d : Place × Replica = (place, w) in
      let there : IsSome (lookup (is_at (place_cmp place)) slots) =
      subst (λ (o : Option Replica). IsSome o) (sym (found_at slots ordered place i at d)) refl in
      only_at slots (with_stored slots i w) place (Some w)
      (λ q. ap (λ (xs : Slots). found_in xs q) (written_at slots ordered place i at w)
      ∙ lookup-set_value laws (is_at (place_cmp place)) one q w slots there)

  pub removed : IsAt slots place i → IsOnlyAt slots (remove slots i) place None
  removed at = only_at slots (remove slots i) place None
      (λ q. ap (λ (xs : Slots). found_in xs q) (removed_at slots ordered place i at)
      ∙ lookup-remove_entry laws (is_at (place_cmp place)) one q slots
      (IsDistinct-from_sorted place_cmp (keys_of slots) ordered))

  pub inserted : IsGapFor slots place i → (r : Replica) → IsOnlyAt slots (insert slots i (place, r)) place (Some r)
  inserted gap r = only_at slots (insert slots i (place, r)) place (Some r)
      (λ q. lookup-insert laws place r q slots i
      (none_passes_from_lookup (is_at (place_cmp place)) slots (none_at slots ordered place i gap)))

-- what is written through a replica that was lent
pub written_back : (slots : Slots) (i : ℕ) (x : Place × Replica) (w : Replica) → i < length slots
    → x ≡ get_or slots i x
    → set slots i (x.0, w) ≡ with_stored slots i w
written_back [] i x w within is = absurd (omega arith)
written_back (y ∷ ys) zero x w within is = ap (λ (slot : Place × Replica). (slot.0, w) ∷ ys) is
written_back (y ∷ ys) (suc i) x w within is = ap (λ (zs : Slots). y ∷ zs) (written_back ys i x w (omega arith) is)

-- ---- the order stays

pub ordered_none : AreOrdered []
unfolding IsStrictlySortedBy
ordered_none = tt

places_written : (slots : Slots) (i : ℕ) (w : Replica) → keys_of (with_stored slots i w) ≡ keys_of slots
places_written [] i w = refl
places_written (x ∷ xs) zero w = refl
places_written (x ∷ xs) (suc i) w = ap (λ (ps : List Place). x.0 ∷ ps) (places_written xs i w)

pub ordered_written : (slots : Slots) (i : ℕ) (w : Replica) → AreOrdered slots → AreOrdered (with_stored slots i w)
ordered_written slots i w ordered =
    subst (λ (ps : List Place). IsStrictlySortedBy place_cmp ps) (sym (places_written slots i w)) ordered

all_removed : (P : Place → Type 0) (slots : Slots) (i : ℕ) → AllByRecursion P (keys_of slots)
    → AllByRecursion P (keys_of (remove slots i))
all_removed P [] zero all = tt
all_removed P [] (suc i) all = tt
all_removed P (x ∷ xs) zero all = all.1
all_removed P (x ∷ xs) (suc i) all = (all.0, all_removed P xs i all.1)

pub ordered_removed : (slots : Slots) (i : ℕ) → AreOrdered slots → AreOrdered (remove slots i)
unfolding IsStrictlySortedBy
ordered_removed [] zero ordered = tt
ordered_removed [] (suc i) ordered = tt
ordered_removed (x ∷ xs) zero ordered = ordered.1
ordered_removed (x ∷ xs) (suc i) ordered =
    (all_removed (λ p. place_cmp x.0 p ≡ Less) xs i ordered.0, ordered_removed xs i ordered.1)

all_inserted : (P : Place → Type 0) (slots : Slots) (i : ℕ) (slot : Place × Replica) → P slot.0
    → AllByRecursion P (keys_of slots)
    → AllByRecursion P (keys_of (insert slots i slot))
all_inserted P slots zero slot first all = (first, all)
all_inserted P [] (suc i) slot first all = (first, tt)
all_inserted P (x ∷ xs) (suc i) slot first all = (all.0, all_inserted P xs i slot first all.1)

all_above : (p q : Place) (ps : List Place) → place_cmp p q ≡ Less → AllByRecursion (λ r. place_cmp q r ≡ Less) ps
    → AllByRecursion (λ r. place_cmp p r ≡ Less) ps
all_above p q [] below all = tt
all_above p q (r ∷ rs) below all = (place_total.trans p q r below all.0, all_above p q rs below all.1)

pub ordered_inserted : (slots : Slots) (place : Place) (i : ℕ) (r : Replica) → AreOrdered slots
    → IsGapFor slots place i
    → AreOrdered (insert slots i (place, r))
unfolding IsStrictlySortedBy
ordered_inserted [] place zero r ordered gap = (tt, tt)
ordered_inserted [] place (suc i) r ordered gap = absurd (omega (arith, gap.within))
ordered_inserted (x ∷ xs) place zero r ordered gap =
    let first : place_cmp place x.0 ≡ Less =
    turned x.0 place Greater (gap.above 0 x (omega arith) (omega arith)) in
    ((first, all_above place x.0 (keys_of xs) first ordered.0), ordered)
ordered_inserted (x ∷ xs) place (suc i) r ordered gap = (
  all_inserted (λ p. place_cmp x.0 p ≡ Less) xs i (place, r) (gap.below 0 x (omega arith)) ordered.0,
  ordered_inserted xs place i r ordered.1 (rest_gap x xs place i gap),
)

-- ---- a search

not_less : (o : Ordering) → o ≡ Greater → is_lt o ≡ false
not_less o is = ap is_lt is

pub is_less : (o : Ordering) → is_lt o ≡ true → o ≡ Less
is_less Less is = refl
is_less Equal is = absurd (cc)
is_less Greater is = absurd (cc)

-- a binary search may be made
pub searchable : (slots : Slots) → AreOrdered slots → (place : Place)
    → IsNonDecreasingBy (λ slot. ordering_index (place_cmp slot.0 place)) slots
searchable slots ordered place =
    searchable_from_sorted place_total (λ (slot : Place × Replica). slot.0) slots place
    (λ k d low within. not_less _ (turned (get_or slots k d).0 (get_or slots (k + 1) d).0 Less
    (rises slots ordered k (k + 1) d (omega arith) within)))

-- what the search found
pub searched : (slots : Slots) → AreOrdered slots → (place : Place) (r : Result ℕ ℕ) → IsSearchInRange r (length slots)
    → IsBinarySearchResult (λ slot. place_cmp slot.0 place) slots r
    → IfOk r (IsAt slots place) × IfErr r (IsGapFor slots place)
searched slots ordered place (Ok i) within equal =
    (record { within = within; here = λ d. place_exact (get_or slots i d).0 place (equal d) }, tt)
searched slots ordered place (Err i) within parts =
    let parted = parts (searchable slots ordered place) in (
      tt,
      record {
        within = within;
        below = λ k d before. parted.0 k d (omega arith) before;
        above = λ k d after before. parted.1 k d after before;
      },
    )

-- a place above the last one goes to the end
pub past_last : (slots : Slots) → AreOrdered slots → (place : Place) (last : Place × Replica)
    → last ≡ get_or slots (length slots - 1) last
    → place_cmp last.0 place ≡ Less
    → 0 < length slots
    → IsGapFor slots place (length slots)
past_last slots ordered place last is below some = record {
  within = omega arith;
  below = λ k d before. all k d before;
  above = λ k d after before. absurd (omega arith);
} where
  end : (d : Place × Replica) → place_cmp (get_or slots (length slots - 1) d).0 place ≡ Less
  end d = ap (λ (x : Place × Replica). place_cmp x.0 place)
      (sym (is ∙ get_or_default slots (length slots - 1) last d (omega arith))) ∙ below

  all : (k : ℕ) (d : Place × Replica) → k < length slots → place_cmp (get_or slots k d).0 place ≡ Less
  all k d before = elim (cases_lt k (length slots - 1)) as (λ _. place_cmp (get_or slots k d).0 place ≡ Less) [
    | inl earlier ↦ place_total.trans (get_or slots k d).0 (get_or slots (length slots - 1) d).0 place
        (rises slots ordered k (length slots - 1) d earlier (omega arith)) (end d)
    | inr late ↦
        let same : length slots - 1 ≡ k = omega arith in
        subst (λ n. place_cmp (get_or slots n d).0 place ≡ Less) same (end d)
  ]

-- so does any place if there is none
pub past_none : (slots : Slots) (place : Place) → length slots ≡ 0 → IsGapFor slots place (length slots)
past_none slots place none = record {
  within = omega arith;
  below = λ k d before. absurd (omega arith);
  above = λ k d after before. absurd (omega arith);
}
