-- All groups of a log, the order in which they come, and what they claim.
use Rattle.std.specs.Prelude.{◌≡◌, ℕ, ◌<◌, ◌≤◌, List, length, slice_index, ⊤}
use Rattle.std.specs.Prelude.{◌≢◌, Bool, true, false, slice_index_or, map, []}
use Rattle.std.specs.List.{flat_map}
use Rattle.entry.specs.declared.entry.Entry.{Entry}
use Rattle.entry.specs.Bag.{IsAmong}
use Rattle.tablet_will.specs.declared.part.Part.{Part}
use Rattle.entry.specs.View.{shown_key}
use Rattle.division.specs.declared.fault.DivideFault.{DivideFault}
use Rattle.division.specs.declared.fault.DivideFault.TheVariants as divide_fault
use Rattle.division.specs.Groups.{Grouped}
use Rattle.division.specs.Division.{groups_of, AreCovered, IsStray}
use Rattle.claims.specs.Bags.{segments_bag}
use Rattle.rebuilding.specs.Rebuilds.{id_of}
use Rattle.rebuilding.specs.declared.naming.Misnamed.{Misnamed}
use Rattle.rebuilding.specs.declared.naming.Misnamed.TheVariants as misnamed
use Rattle.claims.specs.declared.fault.ReplayFault.{ReplayFault}
use Rattle.claims.specs.declared.fault.ReplayFault.TheVariants as fault

-- ---- groups

-- the groups of the segments, in order
abbrev pub all_groups : List Part → List (List Entry) → List Grouped
all_groups qs segments = flat_map (λ (es : List Entry). groups_of qs (id_of es) es) segments

-- the entries of the groups with these numbers, in the order of the numbers
abbrev pub entries_in_turn : List Grouped → List ℕ → List (List Entry)
entries_in_turn groups order =
    map (λ (n : ℕ). slice_index_or (map (λ (g : Grouped). g.entries) groups) n []) order

-- what is replayed: the groups of the segments, divided by the will, in this order
abbrev pub replayed : List (List Entry) → List Part → List ℕ → List (List Entry)
replayed segments qs order = entries_in_turn (all_groups qs segments) order

-- each key of the segments has a partition
abbrev pub AreAllCovered : List Part → List (List Entry) → Type 0
AreAllCovered qs segments = (es : List Entry) → IsAmong es segments → AreCovered qs es

-- why the segments are not divided into groups
abbrev pub IsGroupsFault : List Part → List (List Entry) → ReplayFault → Type 0
IsGroupsFault qs segments fault.NoMemory = ⊤
IsGroupsFault qs segments (fault.Stray k) = (e : Entry) × IsAmong e (segments_bag segments) × IsStray qs e k
IsGroupsFault qs segments _ = ⊥

-- the fault of a division, passed on with a copy of its key; NoMemory if memory for the copy runs out
abbrev pub IsPassedOn : DivideFault → ReplayFault → Type 0
IsPassedOn f fault.NoMemory = ⊤
IsPassedOn (divide_fault.Stray k) (fault.Stray j) = j ≡ shown_key k
IsPassedOn _ _ = ⊥

-- ---- orders

-- the order names each number below the count, and no other
pub record NamesAll (count : ℕ) (order : List ℕ) : Type 0 where
  pub below : (n : ℕ) → IsAmong n order → n < count
  pub each : (n : ℕ) → n < count → IsAmong n order

-- two places of the order have this number
pub record IsTwice (count : ℕ) (order : List ℕ) (n : ℕ) : Type 0 where
  pub first : ℕ
  pub second : ℕ
  pub apart : first < second
  pub within : second < length order
  pub below : n < count
  pub one : slice_index order first ≡ n
  pub other : slice_index order second ≡ n

-- the order lacks this number, and has each lower one
pub record IsOmitted (count : ℕ) (order : List ℕ) (n : ℕ) : Type 0 where
  pub below : n < count
  pub missing : ¬ IsAmong n order
  pub lowest : (m : ℕ) → m < n → IsAmong m order

-- why the order does not name each number below the count, once; if memory ran out, each of its numbers is below
abbrev pub IsMisnamed : ℕ → List ℕ → Misnamed → Type 0
IsMisnamed count order misnamed.NoMemory = (n : ℕ) → IsAmong n order → n < count
IsMisnamed count order misnamed.Stranger = (n : ℕ) × IsAmong n order × (count ≤ n)
IsMisnamed count order (misnamed.Twice n) = IsTwice count order n
IsMisnamed count order (misnamed.LeftOut n) = IsOmitted count order n

-- the numbers at the first `places` places of the order are marked, no others are, and they all differ
pub record AreMarked (order : List ℕ) (places : ℕ) (named : List Bool) : Type 0 where
  pub marked : (i : ℕ) → i < places → slice_index_or named (slice_index order i) false ≡ true
  pub only : (n : ℕ) → slice_index_or named n false ≡ true → (i : ℕ) × (i < places) × (slice_index order i ≡ n)
  pub once : (i j : ℕ) → i < j → j < places → slice_index order i ≢ slice_index order j

-- ---- ids

-- the segments at these two places have the same id
pub record AreTwins (ids : List ℕ) (first second : ℕ) : Type 0 where
  pub apart : first < second
  pub within : second < length ids
  pub same : slice_index ids first ≡ slice_index ids second
