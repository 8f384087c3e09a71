-- A replay of one partition: the groups that it is to take and those that it took, and what they stand for.
use Rattle.std.specs.Prelude.{◌≡◌, ℕ, ◌+◌, ◌<◌, max, List, [], ◌∷◌, ◌++◌, map, All, Option, Some, None}
use Rattle.std.specs.Prelude.{nat_le, if◌then◌else◌}
use Rattle.std.specs.List.Sorted.{IsStrictlySortedBy}
use Rattle.entry.specs.declared.key.Key.{Key}
use Rattle.entry.specs.declared.entry.Object.{Object}
use Rattle.entry.specs.Bag.{IsAmong}
use Rattle.entry.specs.Format.{IsObject}
use Rattle.entry.specs.Order.{key_cmp}
use Rattle.entry.specs.Meaning.{Versioned, IsTop, IsMeaning, IsClean, among, bound_of, object_at, contents_of}
use Rattle.division.specs.Groups.{Grouped, bag_of, segments_of}
use Rattle.partition_replay.specs.Keeping.{Clashes}
use Rattle.partition_replay.specs.declared.replay.Replayed.{Replayed}
use Rattle.claims.specs.declared.fault.ReplayFault.{ReplayFault}
use Rattle.claims.specs.declared.fault.ReplayFault.TheVariants as fault

-- the partition, the segments that each have a group in it, and the groups that were taken
pub record Replaying : Type 0 where
  pub partition : ℕ
  pub ids : List ℕ
  pub groups : List Grouped

-- ---- a group

-- A group of this segment and partition is one that the replay is to take.
pub record IsWanted (r : Replaying) (segment partition : ℕ) : Type 0 where
  pub same : partition ≡ r.partition
  pub listed : IsAmong segment r.ids

-- a group of the segment was taken
abbrev pub IsDone : Replaying → ℕ → Type 0
IsDone r segment = IsAmong segment (segments_of r.groups)

-- A group of this segment and partition is wanted, and none was taken before.
pub record IsPlaced (r : Replaying) (segment partition : ℕ) : Type 0 where
  pub wanted : IsWanted r segment partition
  pub new : ¬ IsDone r segment

-- the replay after it took this group too
abbrev pub taken : Replaying → Grouped → Replaying
taken r g = record { partition = r.partition; ids = r.ids; groups = r.groups ++ g ∷ [] }

-- no two objects of the groups have one key and version, and different values
abbrev pub AreClean : Replaying → Type 0
AreClean r = IsClean (among (bag_of r.groups))

-- no key has two different objects of greatest rank
abbrev pub AreSettled : Replaying → Type 0
AreSettled r = (k : Key) (x y : Versioned) → IsTop k (among (bag_of r.groups)) (object_at k x)
    → IsTop k (among (bag_of r.groups)) (object_at k y) → x ≡ y

-- an object of the group clashes with what is kept of its key as it comes
abbrev pub HasClash : Replaying → Grouped → Type 0
HasClash r g = Clashes (bag_of r.groups) g.entries

-- The group is wanted and new. None of its objects clashes as it comes, and it leaves each key with one object at most.
pub record Takes (r : Replaying) (g : Grouped) : Type 0 where
  pub placed : IsPlaced r g.segment g.partition
  pub passed : ¬ HasClash r g
  pub settled : AreSettled (taken r g)

-- why no group of this segment and partition is taken
abbrev pub IsMisplaced : Replaying → ℕ → ℕ → ReplayFault → Type 0
IsMisplaced r segment partition (fault.Double named) =
    (named ≡ segment) × IsWanted r segment partition × IsDone r segment
IsMisplaced r segment partition fault.Stranger = ¬ IsWanted r segment partition
IsMisplaced r segment partition _ = ⊥

-- Why a group is not taken. NoMemory comes only if the group is wanted and new.
abbrev pub IsTakeFault : Replaying → Grouped → ReplayFault → Type 0
IsTakeFault r g (fault.Double named) = IsMisplaced r g.segment g.partition (fault.Double named)
IsTakeFault r g fault.Stranger = IsMisplaced r g.segment g.partition fault.Stranger
IsTakeFault r g fault.NoMemory = IsPlaced r g.segment g.partition
IsTakeFault r g fault.Clash = IsPlaced r g.segment g.partition × HasClash r g × (¬ AreClean (taken r g))
IsTakeFault r g _ = ⊥

-- ---- the end

-- what the groups stand for, once each segment has a group
pub record IsReplayed (r : Replaying) (out : Replayed) : Type 0 where
  pub whole : (id : ℕ) → IsAmong id r.ids → IsDone r id
  pub meaning : IsMeaning (among (bag_of r.groups)) (contents_of out.objects)
  -- each key once, in order
  pub order : IsStrictlySortedBy key_cmp (map (λ (o : Object). o.key) out.objects)
  pub valid : All IsObject out.objects
  -- the greatest version of the groups' entries, or 0
  pub greatest : out.greatest + 1 ≡ max 1 (bound_of (bag_of r.groups))

-- the lowest of the segments that have no group
pub record IsLowestMissing (ids : List ℕ) (groups : List Grouped) (lowest : ℕ) : Type 0 where
  pub listed : IsAmong lowest ids
  pub missing : ¬ IsAmong lowest (segments_of groups)
  pub below : (id : ℕ) → IsAmong id ids → id < lowest → IsAmong id (segments_of groups)

abbrev pub IsLowest : List ℕ → List Grouped → Option ℕ → Type 0
IsLowest ids groups (Some lowest) = IsLowestMissing ids groups lowest
IsLowest ids groups None = (id : ℕ) → IsAmong id ids → IsAmong id (segments_of groups)

-- the lower of the two ids, or the second one if the first is None
abbrev pub lower_of : Option ℕ → ℕ → ℕ
lower_of None id = id
lower_of (Some low) id = if nat_le low id then low else id

-- Why a replay does not end. NoMemory comes only once each segment has a group.
abbrev pub IsFinishFault : Replaying → ReplayFault → Type 0
IsFinishFault r (fault.MissingGroup id) = IsLowestMissing r.ids r.groups id
IsFinishFault r fault.NoMemory = IsLowest r.ids r.groups None
IsFinishFault r _ = ⊥
