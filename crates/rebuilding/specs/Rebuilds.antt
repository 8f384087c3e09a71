-- A log rebuilt from its groups, which are taken in some order. Groups are counted from 0: segment by segment, and of
-- one segment by partition.
use Rattle.std.specs.Prelude.{◌≡◌, ◌≢◌, ℕ, ◌*◌, ◌/◌, ◌%◌, ◌<◌, ◌≤◌, ◌==◌, List, length, map, slice_index}
use Rattle.std.specs.Prelude.{Option, Some, None}
use Rattle.std.specs.List.{IsDistinct, range_with_len}
use Rattle.std.specs.List.Sorted.{IsPermutation}
use Rattle.entry.specs.declared.entry.Header.{Header}
use Rattle.entry.specs.declared.entry.Entry.{Entry}
use Rattle.entry.specs.Bag.{IsAmong}
use Rattle.entry.specs.Meaning.{IsClean, among}
use Rattle.entry.specs.Text.{header_of}
use Rattle.tablet_will.specs.declared.part.Part.{Part}
use Rattle.tablet_will.specs.Parts.{partitions_of}
use Rattle.division.specs.Division.{AreCovered, IsStray}
use Rattle.claims.specs.Bags.{segments_bag}
use Rattle.claims.specs.declared.fault.ReplayFault.{ReplayFault}
use Rattle.claims.specs.declared.fault.ReplayFault.TheVariants as fault

-- ---- numbers of groups

abbrev pub header_id : Option Header → ℕ
header_id None = 0
header_id (Some h) = h.segment

-- the id in the header of a segment with these entries
abbrev pub id_of : List Entry → ℕ
id_of es = header_id (header_of es)

abbrev pub ids_of : List (List Entry) → List ℕ
ids_of segments = map id_of segments

-- no two segments have the same id
abbrev pub AreApart : List ℕ → Type 0
AreApart ids = (i j : ℕ) → i < j → j < length ids → slice_index ids i ≢ slice_index ids j

-- how many groups there are
abbrev pub count_of : List (List Entry) → List Part → ℕ
count_of segments qs = length segments * partitions_of qs

-- Group n is of a segment with this id, and of this partition.
pub record IsGroup (segments : List (List Entry)) (qs : List Part) (n id partition : ℕ) : Type 0 where
  pub below : n < count_of segments qs
  pub has_id : slice_index (ids_of segments) (n / partitions_of qs) ≡ id
  pub has_partition : n % partitions_of qs ≡ partition

-- ---- orders

-- the order names each group once
abbrev pub IsOrderOf : ℕ → List ℕ → Type 0
IsOrderOf count order = IsPermutation (range_with_len 0 count) order

-- the list has each number below the count exactly once, and no other number
pub record NamesEach (count : ℕ) (order : List ℕ) : Type 0 where
  pub below : (n : ℕ) → IsAmong n order → n < count
  pub each : (n : ℕ) → n < count → IsAmong n order
  pub once : (i j : ℕ) → i < j → j < length order → slice_index order i ≢ slice_index order j

-- ---- faults

-- two places of the order name groups of one partition, and both groups are of a segment with this id
pub record IsDouble (segments : List (List Entry)) (qs : List Part) (order : List ℕ) (id : ℕ) : Type 0 where
  pub first : ℕ
  pub second : ℕ
  pub partition : ℕ
  pub apart : first < second
  pub within : second < length order
  pub one : IsGroup segments qs (slice_index order first) id partition
  pub other : IsGroup segments qs (slice_index order second) id partition

-- the order leaves out a group of a segment with this id, and no group with a lower number
pub record IsLeftOut (segments : List (List Entry)) (qs : List Part) (order : List ℕ) (id : ℕ) : Type 0 where
  pub number : ℕ
  pub below : number < count_of segments qs
  pub segment : slice_index (ids_of segments) (number / partitions_of qs) ≡ id
  pub missing : ¬ IsAmong number order
  pub lowest : (n : ℕ) → n < number → IsAmong n order

-- Memory ran out. Each number of the order is that of a group, and if the order names each group once, the ids differ.
pub record IsShortOfMemory (segments : List (List Entry)) (qs : List Part) (order : List ℕ) : Type 0 where
  pub below : (n : ℕ) → IsAmong n order → n < count_of segments qs
  pub apart : NamesEach (count_of segments qs) order → AreApart (ids_of segments)

-- why the segments are not rebuilt by this will in this order
abbrev pub IsRebuildFault : List (List Entry) → List Part → List ℕ → ReplayFault → Type 0
IsRebuildFault segments qs order (fault.Double id) = IsDouble segments qs order id
IsRebuildFault segments qs order fault.Stranger = (n : ℕ) × IsAmong n order × (count_of segments qs ≤ n)
IsRebuildFault segments qs order (fault.MissingGroup id) = IsLeftOut segments qs order id
IsRebuildFault segments qs order fault.NoMemory = IsShortOfMemory segments qs order
IsRebuildFault segments qs order fault.Clash = ¬ IsClean (among (segments_bag segments))
IsRebuildFault segments qs order (fault.Stray k) =
    (e : Entry) × IsAmong e (segments_bag segments) × IsStray qs e k

-- Nothing but want of memory can stop the rebuild: the ids differ, no two objects of one key and version have
-- different values, each key has a partition, and the order names each group once.
pub record CanBeRebuilt (segments : List (List Entry)) (qs : List Part) (order : List ℕ) : Type 0 where
  pub ids : IsDistinct (λ (a b : ℕ). a == b) (ids_of segments)
  pub clean : IsClean (among (segments_bag segments))
  pub covered : AreCovered qs (segments_bag segments)
  pub whole : IsOrderOf (count_of segments qs) order
