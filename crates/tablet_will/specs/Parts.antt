-- Parts of tablets: the partition of each place, and what is true of the parts of a will.
use Rattle.std.specs.Prelude.{◌≡◌, ℕ, ◌+◌, ◌<◌, ◌^◌, ◌&&◌, Bool, true, nat_le}
use Rattle.std.specs.Prelude.{List, [], ◌∷◌, Option, Some, None, if◌then◌else◌, is_some, IfSome}
use Rattle.std.specs.List.{list_any, slice_get}
use Rattle.entry.specs.declared.key.Key.{Key}
use Rattle.entry.specs.declared.tablet.Tablet.{Tablet}
use Rattle.entry.specs.Key.{place_of}
use Rattle.tablet_will.specs.declared.part.Part.{Part}
use Rattle.tablet_will.specs.Order.{is_below, is_within}

-- ---- the partition of a place

-- the part has this place of the table
abbrev pub is_in_part : Part → ℕ → ℕ → Bool
is_in_part q table place = is_within q.table q.first q.last table place

-- the partition of the first part that has this place of the table; None if no part has it
abbrev pub partition_at : List Part → ℕ → ℕ → Option ℕ
partition_at [] table place = None
partition_at (q ∷ qs) table place =
    if is_in_part q table place then Some q.partition else partition_at qs table place

abbrev pub partition_of_key : List Part → Key → Option ℕ
partition_of_key qs k = partition_at qs k.table (place_of k.bytes)

-- how many partitions there are: one more than the partition of the last part; 0 if there is no part
abbrev pub partitions_of : List Part → ℕ
partitions_of [] = 0
partitions_of (q ∷ []) = q.partition + 1
partitions_of (q ∷ r ∷ qs) = partitions_of (r ∷ qs)

-- ---- the parts of a will

-- the first part ends before the other part begins
abbrev pub ends_before : Part → Part → Bool
ends_before q r = is_below q.table q.last r.table r.first

-- no part is empty, and each part ends before the next one begins
abbrev pub are_sorted : List Part → Bool
are_sorted [] = true
are_sorted (q ∷ []) = nat_le q.first q.last
are_sorted (q ∷ r ∷ qs) = nat_le q.first q.last && (ends_before q r && are_sorted (r ∷ qs))

-- the parts with these two indices in the list both have this place of the table
abbrev pub IsInBoth : List Part → ℕ → ℕ → ℕ → ℕ → Type 0
IsInBoth qs i j table place = (q r : Part) × (slice_get qs i ≡ Some q) × (slice_get qs j ≡ Some r)
    × (is_in_part q table place ≡ true) × (is_in_part r table place ≡ true)

-- What is true of the parts of each will: they are sorted, and no two of them have a place in common. There are 1 to
-- 4,294,967,295 partitions, numbered from 0, and each partition has a place.
pub record AreParts (qs : List Part) : Type 0 where
  pub sorted : are_sorted qs ≡ true
  pub alone : (i j table place : ℕ) → IsInBoth qs i j table place → i ≡ j
  pub some : 0 < partitions_of qs
  pub limit : partitions_of qs < 2 ^ 32
  pub below : (table place : ℕ) → IfSome (partition_at qs table place) (λ n. n < partitions_of qs)
  pub each : (n : ℕ) → n < partitions_of qs → (table place : ℕ) × (partition_at qs table place ≡ Some n)

-- ---- the parts of tablets

-- the tablet has this place of the table
abbrev pub is_in_tablet : Tablet → ℕ → ℕ → Bool
is_in_tablet t table place = is_within t.table t.first t.last table place

-- one of the tablets has this place of the table
abbrev pub is_in_one : List Tablet → ℕ → ℕ → Bool
is_in_one ts table place = list_any (λ (t : Tablet). is_in_tablet t table place) ts

-- By these parts each place of the tablets has exactly one partition, and no other place has one.
pub record Divides (ts : List Tablet) (qs : List Part) : Type 0 where
  pub parts : AreParts qs
  pub covered : (table place : ℕ) → is_some (partition_at qs table place) ≡ is_in_one ts table place
