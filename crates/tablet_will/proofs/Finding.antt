-- Parts in order, and how a binary search finds the part of a place.
use Rattle.std.proofs.Common.{◌≡◌, ℕ, zero, suc, ◌-◌, ◌+◌, ◌<◌, ◌≤◌, Bool, true, false, List, [], ◌∷◌, length}
use Rattle.std.proofs.Common.{inl, inr, get_or, refl, ap, subst, ◌∙◌, arith}
use Rattle.std.specs.Prelude.{Option, Some, None, nat_le, ◌&&◌, if◌then◌else◌}
use Rattle.std.specs.List.{slice_get, AllWithin}
use Rattle.std.specs.List.Sorted.{IsPartitionedBy}
use Rattle.std.proofs.lemmas.Bool.{and_parts, and_from, both_ways, cases_lt}
use Rattle.std.proofs.lemmas.Option.{same_Some, slice_get-get_or, slice_get_past}
use Rattle.tablet_will.specs.declared.part.Part.{Part}
use Rattle.tablet_will.specs.Order.{is_below}
use Rattle.tablet_will.specs.Parts.{is_in_part, partition_at, partitions_of, ends_before, are_sorted, IsInBoth}
use Rattle.tablet_will.proofs.Order.{below_below, below_upto, up_to_last, below_not_within}
use Rattle.tablet_will.proofs.Order.{above_not_within, not_passed}
use Rattle.tablet_will.proofs.Order.{within_first}

-- the first part begins after the place
abbrev pub Behind : ℕ → ℕ → List Part → Type 0
Behind a b [] = Unit {0}
Behind a b (q ∷ qs) = is_below a b q.table q.first ≡ true

-- ---- parts in order

pub sorted_whole : (q : Part) (qs : List Part) → are_sorted (q ∷ qs) ≡ true → nat_le q.first q.last ≡ true
sorted_whole q [] e = e
sorted_whole q (r ∷ rs) e = (and_parts (nat_le q.first q.last) (ends_before q r && are_sorted (r ∷ rs)) e).0

pub sorted_behind : (q : Part) (qs : List Part) → are_sorted (q ∷ qs) ≡ true → Behind q.table q.last qs
sorted_behind q [] e = tt
sorted_behind q (r ∷ rs) e =
    (and_parts (ends_before q r) (are_sorted (r ∷ rs))
    (and_parts (nat_le q.first q.last) (ends_before q r && are_sorted (r ∷ rs)) e).1).0

pub sorted_rest : (q : Part) (qs : List Part) → are_sorted (q ∷ qs) ≡ true → are_sorted qs ≡ true
sorted_rest q [] e = refl
sorted_rest q (r ∷ rs) e =
    (and_parts (ends_before q r) (are_sorted (r ∷ rs))
    (and_parts (nat_le q.first q.last) (ends_before q r && are_sorted (r ∷ rs)) e).1).1

pub sorted_cons : (q : Part) (qs : List Part) → nat_le q.first q.last ≡ true → Behind q.table q.last qs
    → are_sorted qs ≡ true → are_sorted (q ∷ qs) ≡ true
sorted_cons q [] e b s = e
sorted_cons q (r ∷ rs) e b s = and_from _ _ e (and_from _ _ b s)

-- what comes before a part comes before the next
pub behind_next : (a b : ℕ) (q : Part) (qs : List Part) → are_sorted (q ∷ qs) ≡ true
    → is_below a b q.table q.first ≡ true → Behind a b qs
behind_next a b q [] s e = tt
behind_next a b q (r ∷ rs) s e =
    let last = below_upto a b q.table q.first q.table q.last e
    (up_to_last q.table q.first q.last (sorted_whole q (r ∷ rs) s)) in
    below_below a b q.table q.last r.table r.first last (sorted_behind q (r ∷ rs) s)

-- a place before the first part is in none
pub none_before : (qs : List Part) (a b : ℕ) → are_sorted qs ≡ true → Behind a b qs → partition_at qs a b ≡ None
none_before [] a b s e = refl
none_before (q ∷ qs) a b s e =
    rw (below_not_within q.table q.first q.last a b e)
    (none_before qs a b (sorted_rest q qs s) (behind_next a b q qs s e))

-- a part ends before each later one begins
pub later_begins : (q : Part) (qs : List Part) (j : ℕ) (r : Part) → are_sorted (q ∷ qs) ≡ true → slice_get qs j ≡ Some r
    → is_below q.table q.last r.table r.first ≡ true
later_begins q [] j r s at = absurd (cc)
later_begins q (x ∷ xs) zero r s at =
    subst (λ (y : Part). is_below q.table q.last y.table y.first ≡ true) (same_Some x r at) (sorted_behind q (x ∷ xs) s)
later_begins q (x ∷ xs) (suc j) r s at =
    let rest = sorted_rest q (x ∷ xs) s in
    let next = below_upto q.table q.last x.table x.first x.table x.last (sorted_behind q (x ∷ xs) s)
    (up_to_last x.table x.first x.last (sorted_whole x xs rest)) in
    below_below q.table q.last x.table x.last r.table r.first next (later_begins x xs j r rest at)

-- no place is in two parts of which one ends before the other begins
apart : (q r : Part) (a b : ℕ) → is_below q.table q.last r.table r.first ≡ true → is_in_part q a b ≡ true
    → is_in_part r a b ≡ true → ⊥
apart q r a b before in_q in_r =
    let begun = below_upto q.table q.last r.table r.first a b before (within_first r.table r.first r.last a b in_r) in
    both_ways (is_in_part q a b) (above_not_within q.table q.first q.last a b begun) in_q

pub alone : (qs : List Part) (i j a b : ℕ) → are_sorted qs ≡ true → IsInBoth qs i j a b → i ≡ j
alone [] i j a b s both = let at = both.2 in absurd (cc)
alone (q ∷ qs) zero zero a b s both = refl
alone (q ∷ qs) zero (suc j) a b s both =
    let in_q : is_in_part q a b ≡ true = ap (λ (x : Part). is_in_part x a b) (same_Some q both.0 both.2) ∙ both.4 in
    absurd (apart q both.1 a b (later_begins q qs j both.1 s both.3) in_q both.5)
alone (q ∷ qs) (suc i) zero a b s both =
    let in_q : is_in_part q a b ≡ true = ap (λ (x : Part). is_in_part x a b) (same_Some q both.1 both.3) ∙ both.5 in
    absurd (apart q both.0 a b (later_begins q qs i both.0 s both.2) in_q both.4)
alone (q ∷ qs) (suc i) (suc j) a b s both = ap (λ (n : ℕ). suc n) (alone qs i j a b (sorted_rest q qs s) both)

-- ---- the part of a place

-- a part ends before each later one ends
later_ends : (q : Part) (qs : List Part) (j : ℕ) (d : Part) → are_sorted (q ∷ qs) ≡ true → j < length qs
    → is_below q.table q.last (get_or qs j d).table (get_or qs j d).last ≡ true
later_ends q [] j d s lt = absurd (omega (arith, lt))
later_ends q (x ∷ xs) zero d s lt =
    below_upto q.table q.last x.table x.first x.table x.last (sorted_behind q (x ∷ xs) s)
    (up_to_last x.table x.first x.last (sorted_whole x xs (sorted_rest q (x ∷ xs) s)))
later_ends q (x ∷ xs) (suc j) d s lt =
    let rest = sorted_rest q (x ∷ xs) s in
    let next = below_upto q.table q.last x.table x.first x.table x.last (sorted_behind q (x ∷ xs) s)
    (up_to_last x.table x.first x.last (sorted_whole x xs rest)) in
    below_below q.table q.last x.table x.last (get_or xs j d).table (get_or xs j d).last next
    (later_ends x xs j d rest (omega (arith, lt)))

-- those that end before a place come first
pub parted : (qs : List Part) (a b : ℕ) → are_sorted qs ≡ true
    → IsPartitionedBy (λ (q : Part). is_below q.table q.last a b) qs
parted [] a b s i j d le lt e = absurd (omega (arith, lt))
parted (q ∷ qs) a b s zero zero d le lt e = e
parted (q ∷ qs) a b s zero (suc j) d le lt e =
    below_below q.table q.last (get_or qs j d).table (get_or qs j d).last a b
    (later_ends q qs j d s (omega (arith, lt))) e
parted (q ∷ qs) a b s (suc i) zero d le lt e = absurd (omega (arith, le))
parted (q ∷ qs) a b s (suc i) (suc j) d le lt e =
    parted qs a b (sorted_rest q qs s) i j d (omega (arith, le)) (omega (arith, lt)) e

-- the partition of a place if it is in this part
abbrev pub partition_in : Option Part → ℕ → ℕ → Option ℕ
partition_in None a b = None
partition_in (Some q) a b = if is_in_part q a b then Some q.partition else None

-- it is in the first part that doesn't end before it, or in none
pub partition_found : (qs : List Part) (i a b : ℕ) → are_sorted qs ≡ true
    → AllWithin (λ (q : Part). is_below q.table q.last a b ≡ true) qs 0 i
    → AllWithin (λ (q : Part). is_below q.table q.last a b ≡ false) qs i (length qs)
    → partition_at qs a b ≡ partition_in (slice_get qs i) a b
partition_found [] zero a b s before behind = refl
partition_found [] (suc i) a b s before behind = refl
partition_found (q ∷ qs) zero a b s before behind = go (is_in_part q a b) refl
  where
    go : (t : Bool) → is_in_part q a b ≡ t → partition_at (q ∷ qs) a b ≡ partition_in (Some q) a b
    go true e = rw e refl
    go false e =
        let here = not_passed q.table q.first q.last a b (behind zero q (omega arith) (omega arith)) e in
        rw e (none_before qs a b (sorted_rest q qs s) (behind_next a b q qs s here))
partition_found (q ∷ qs) (suc i) a b s before behind =
    rw (above_not_within q.table q.first q.last a b (before zero q (omega arith) (omega arith)))
    (partition_found qs i a b (sorted_rest q qs s)
    (λ k d low high. before (suc k) d (omega arith) (omega (arith, high)))
    (λ k d low high. behind (suc k) d (omega (arith, low)) (omega (arith, high))))

pub is_there : (i n : ℕ) → i ≤ n → (i ≡ n → ⊥) → i < n
is_there i n le other =
    elim (cases_lt i n) as (λ _. i < n) [ inl lt ↦ lt | inr ge ↦ absurd (other (omega (arith, le, ge))) ]

-- if such a part is there, it is in that one or in none
pub partition_here : (qs : List Part) (i a b : ℕ) (d : Part) → partition_at qs a b ≡ partition_in (slice_get qs i) a b
    → i < length qs → partition_at qs a b ≡ partition_in (Some (get_or qs i d)) a b
partition_here qs i a b d found lt = found ∙ ap (λ (o : Option Part). partition_in o a b) (slice_get-get_or qs i d lt)

pub partition_past : (qs : List Part) (i a b : ℕ) → partition_at qs a b ≡ partition_in (slice_get qs i) a b
    → length qs ≤ i → partition_at qs a b ≡ None
partition_past qs i a b found le = found ∙ ap (λ (o : Option Part). partition_in o a b) (slice_get_past qs i le)

-- the last part has the greatest number
pub partitions_last : (qs : List Part) (d : Part) → 0 < partitions_of qs
    → partitions_of qs ≡ (get_or qs (length qs - 1) d).partition + 1
partitions_last [] d some = absurd (omega (arith, some))
partitions_last (q ∷ []) d some = refl
partitions_last (q ∷ r ∷ rs) d some =
    let next : length (q ∷ r ∷ rs) - 1 ≡ suc (length (r ∷ rs) - 1) = omega arith in
    rw next (partitions_last (r ∷ rs) d some)

pub partitions_some : (qs : List Part) → 0 < partitions_of qs → 0 < length qs
partitions_some [] some = some
partitions_some (q ∷ qs) some = omega arith
