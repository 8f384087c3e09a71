-- A log that is divided by partition: what each partition stands for, and what the joined lists of partitions stand
-- for.
use Rattle.std.specs.Prelude.{◌≡◌, ℕ, ◌<◌, max, zero, suc, List, [], map, filter, length, All, Bool, true, false}
use Rattle.std.specs.Prelude.{slice_index_or}
use Rattle.std.specs.List.{flat_map}
use Rattle.entry.specs.declared.entry.Object.{Object}
use Rattle.entry.specs.declared.entry.Entry.{Entry}
use Rattle.entry.specs.declared.entry.Entry.TheVariants as entry
use Rattle.entry.specs.Bag.{IsAmong}
use Rattle.entry.specs.Format.{IsObject}
use Rattle.entry.specs.Meaning.{IsTop, IsMeaning, IsClean, among, bound_of, contents_of}
use Rattle.tablet_will.specs.declared.part.Part.{Part}
use Rattle.division.specs.Division.{goes_to}
use Rattle.claims.specs.Bags.{segments_bag}
use Rattle.claims.specs.Claims.{Claimed, claims_of}
use Rattle.claims.specs.Listed.{AreOrdered}

-- ---- what goes to a partition

-- the entries of a segment that go to a partition
abbrev pub entries_for : List Part → ℕ → List Entry → List Entry
entries_for qs n es = filter (goes_to qs n) es

-- the log of a partition: the entries of each segment that go there
abbrev pub part_of : List Part → ℕ → List (List Entry) → List (List Entry)
part_of qs n segments = map (entries_for qs n) segments

-- all objects and tombstones of a log that go to a partition
abbrev pub bag_in : List Part → ℕ → List (List Entry) → List Entry
bag_in qs n segments = segments_bag (part_of qs n segments)

-- the entries are those of the segment at this place that go to the partition
pub record IsParcel (qs : List Part) (segments : List (List Entry)) (at n : ℕ) (es : List Entry) : Type 0 where
  pub below : at < length segments
  pub entries : es ≡ entries_for qs n (slice_index_or segments at [])

-- a group on its way to a worker, with the place of its segment
pub record Parceled : Type 0 where
  pub at : ℕ
  pub partition : ℕ
  pub entries : List Entry

-- all entries of the groups
abbrev pub entries_in : List Parceled → List Entry
entries_in parcels = flat_map (λ (p : Parceled). p.entries) parcels

-- ---- a partition, gathered

-- The claims are of the partition, and all those of the marked segments are there.
pub record AreGathered (qs : List Part) (segments : List (List Entry)) (n : ℕ) (marks : List Bool)
    (cs : List Claimed) : Type 0 where
  pub long : length marks ≡ length segments
  pub only : (c : Claimed) → IsAmong c cs → IsAmong c (claims_of (bag_in qs n segments))
  pub each : (at : ℕ) → slice_index_or marks at false ≡ true → (c : Claimed)
      → IsAmong c (claims_of (entries_for qs n (slice_index_or segments at []))) → IsAmong c cs

-- ---- lists

-- the list has what the entries mean, in order; the safe version is above all their versions; the entries are clean
pub record IsListed (es : List Entry) (recorded : ℕ) (os : List Object) (safe : ℕ) : Type 0 where
  pub meaning : IsMeaning (among es) (contents_of os)
  pub ordered : AreOrdered os
  pub valid : All IsObject os
  pub above : safe ≡ max recorded (bound_of es)
  pub clean : IsClean (among es)

-- the object is its key's current one in a partition
abbrev pub IsTopIn : List Part → List (List Entry) → ℕ → Object → Type 0
IsTopIn qs segments n o = IsTop o.key (among (bag_in qs n segments)) (entry.Object o)

-- one above the greatest version in the first n partitions, or 0
abbrev pub bound_in : List Part → List (List Entry) → ℕ → ℕ
bound_in qs segments zero = 0
bound_in qs segments (suc n) = max (bound_in qs segments n) (bound_of (bag_in qs n segments))

-- the list has just the objects of the first n partitions
pub record AreJoined (qs : List Part) (segments : List (List Entry)) (recorded n : ℕ)
    (os : List Object) (safe : ℕ) : Type 0 where
  pub only : (o : Object) → IsAmong o os → (m : ℕ) × (m < n) × IsTopIn qs segments m o
  pub each : (m : ℕ) → m < n → (o : Object) → IsTopIn qs segments m o → IsAmong o os
  pub ordered : AreOrdered os
  pub valid : All IsObject os
  pub above : safe ≡ max recorded (bound_in qs segments n)
  pub clean : (m : ℕ) → m < n → IsClean (among (bag_in qs m segments))
