-- The replicas of one backup, in the order of their places.
use Rattle.std.specs.Prelude.{◌≡◌, ℕ, zero, suc, ◌<◌, ◌≤◌, List, [], ◌∷◌, length, Option, slice_index_or}
use Rattle.std.specs.Ordering.{nat_cmp, ordering_then}
use Rattle.std.specs.declared.cmp.Ordering.{Ordering}
use Rattle.std.specs.declared.cmp.Ordering.TheVariants.{Less, Greater}
use Rattle.std.specs.BTreeMap.{is_at}
use Rattle.std.specs.List.{HoldsAt}
use Rattle.std.specs.List.Sorted.{IsStrictlySortedBy}
use Rattle.std.specs.Map.{keys_of, lookup}
use Rattle.replica.specs.Picture.{Replica}

-- the numbers of a master and of a segment
abbrev pub Place : Type 0
Place = ℕ × ℕ

-- by master, then by segment
abbrev pub place_cmp : Place → Place → Ordering
place_cmp p q = ordering_then (nat_cmp p.0 q.0) (nat_cmp p.1 q.1)

-- replicas, each behind its place
abbrev pub Slots : Type 0
Slots = List (Place × Replica)

-- each place is below those after it
abbrev pub AreOrdered : Slots → Type 0
AreOrdered slots = IsStrictlySortedBy place_cmp (keys_of slots)

-- the replica at a place
abbrev pub found_in : Slots → Place → Option Replica
found_in slots place = lookup (is_at (place_cmp place)) slots

-- the i-th replica becomes this one
abbrev pub with_stored : Slots → ℕ → Replica → Slots
with_stored [] i r = []
with_stored (x ∷ xs) zero r = (x.0, r) ∷ xs
with_stored (x ∷ xs) (suc i) r = x ∷ with_stored xs i r

-- The i-th replica is at this place.
pub record IsAt (slots : Slots) (place : Place) (i : ℕ) : Type 0 where
  pub within : i < length slots
  pub here : HoldsAt (λ slot. slot.0 ≡ place) slots i

-- A replica at this place would be the i-th: those before it are below, and the others above.
pub record IsGapFor (slots : Slots) (place : Place) (i : ℕ) : Type 0 where
  pub within : i ≤ length slots
  pub below : (k : ℕ) (d : Place × Replica) → k < i → place_cmp (slice_index_or slots k d).0 place ≡ Less
  pub above : (k : ℕ) (d : Place × Replica) → i ≤ k → k < length slots
      → place_cmp (slice_index_or slots k d).0 place ≡ Greater
