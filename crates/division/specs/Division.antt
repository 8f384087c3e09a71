-- A division of a segment: each partition gets the objects and tombstones whose keys are in it.
use Rattle.std.specs.Prelude.{◌≡◌, ℕ, ◌<◌, List, [], ◌∷◌, ◌++◌, map, filter, Bool, false, ◌==◌, if◌then◌else◌}
use Rattle.std.specs.Prelude.{Option, Some, None, is_some, true, IfSome}
use Rattle.std.specs.List.{range_with_len}
use Rattle.entry.specs.declared.key.Key.{Key}
use Rattle.entry.specs.declared.entry.Header.{Header}
use Rattle.entry.specs.declared.entry.Entry.{Entry}
use Rattle.entry.specs.declared.entry.Entry.TheVariants as entry
use Rattle.entry.specs.Bag.{IsAmong}
use Rattle.entry.specs.Meaning.{IsOfKey}
use Rattle.entry.specs.Text.{header_of}
use Rattle.entry.specs.View.{shown_key}
use Rattle.entry.specs.declared.view.KeyRef.{KeyRef}
use Rattle.tablet_will.specs.declared.part.Part.{Part}
use Rattle.tablet_will.specs.Parts.{partition_of_key, partitions_of}
use Rattle.division.specs.declared.fault.DivideFault.{DivideFault}
use Rattle.division.specs.declared.fault.DivideFault.TheVariants as fault
use Rattle.division.specs.Groups.{Grouped}

-- ---- the groups of a segment

-- the partition of the entry's key, if the entry is an object or a tombstone
abbrev pub partition_in : List Part → Entry → Option ℕ
partition_in qs (entry.Header h) = None
partition_in qs (entry.Digest ids) = None
partition_in qs (entry.Safe version) = None
partition_in qs (entry.Object o) = partition_of_key qs o.key
partition_in qs (entry.Tombstone t) = partition_of_key qs t.key

abbrev pub is_number : ℕ → Option ℕ → Bool
is_number n None = false
is_number n (Some m) = m == n

-- the entry is an object or a tombstone whose key is in the partition
abbrev pub goes_to : List Part → ℕ → Entry → Bool
goes_to qs n e = is_number n (partition_in qs e)

-- the group of partition n: the entries whose keys are in this partition
abbrev pub group_in : List Part → ℕ → List Entry → ℕ → Grouped
group_in qs segment es n = record { segment = segment; partition = n; entries = filter (goes_to qs n) es }

-- the groups of a segment with these entries: one for each partition, in order
abbrev pub groups_of : List Part → ℕ → List Entry → List Grouped
groups_of qs segment es = map (group_in qs segment es) (range_with_len 0 (partitions_of qs))

-- the groups are those of a segment with these entries, whose header has its id
abbrev pub IsDivision : List Part → List Entry → List Grouped → Type 0
IsDivision qs es groups = (h : Header) × (header_of es ≡ Some h) × (groups ≡ groups_of qs h.segment es)

-- ---- strays

-- the key of the entry has a partition, if it is an object or a tombstone
abbrev pub IsCovered : List Part → Entry → Type 0
IsCovered qs e = (k : Key) → IsOfKey k e → is_some (partition_of_key qs k) ≡ true

-- the key of each object and tombstone has a partition
abbrev pub AreCovered : List Part → List Entry → Type 0
AreCovered qs es = (e : Entry) → IsAmong e es → IsCovered qs e

-- the key of the entry has no partition
abbrev pub IsStray : List Part → Entry → Key → Type 0
IsStray qs e k = IsOfKey k e × (partition_of_key qs k ≡ None)

-- some entry has this key, which has no partition
abbrev pub HasStray : List Part → List Entry → Key → Type 0
HasStray qs es k = (e : Entry) × IsAmong e es × IsStray qs e k

-- The fault is one that a division may have: Stray if the named key is that of an entry and has no partition, and
-- NoMemory only if each key has a partition.
abbrev pub IsDivideFault : List Part → List Entry → DivideFault → Type 0
IsDivideFault qs es (fault.Stray k) = HasStray qs es (shown_key k)
IsDivideFault qs es fault.NoMemory = AreCovered qs es

-- ---- one entry

-- what is known of an entry once its partition was sought: if it has a key, the key has a partition of the will
abbrev pub IsSought : List Part → Entry → Option ℕ → Type 0
IsSought qs e n = (partition_in qs e ≡ n) × IsCovered qs e × IfSome n (λ m. m < partitions_of qs)

-- what is known of a key once its partition was found: the number is below the number of partitions
abbrev pub IsFound : List Part → Key → Option ℕ → Type 0
IsFound qs k n = (partition_of_key qs k ≡ n) × (is_some n ≡ true) × IfSome n (λ m. m < partitions_of qs)

-- the key of an object or a tombstone
abbrev pub IsKeyOf : Entry → Option KeyRef → Type 0
IsKeyOf e (Some k) = IsOfKey (shown_key k) e
IsKeyOf e None = (k : Key) → IsOfKey k e → ⊥

-- the key of the entry, if it has no partition
abbrev pub IsStrayOf : List Part → Entry → Option KeyRef → Type 0
IsStrayOf qs e (Some k) = IsStray qs e (shown_key k)
IsStrayOf qs e None = IsCovered qs e

-- a key of the entries that has no partition; None if each key has one
abbrev pub IsStrayIn : List Part → List Entry → Option KeyRef → Type 0
IsStrayIn qs es (Some k) = HasStray qs es (shown_key k)
IsStrayIn qs es None = AreCovered qs es

-- a group with one entry more
abbrev pub with_entry : Entry → Grouped → Grouped
with_entry e g = record { segment = g.segment; partition = g.partition; entries = g.entries ++ e ∷ [] }

-- the groups once the entry is added to the group of its partition, if it has one
abbrev pub added : List Part → Entry → List Grouped → List Grouped
added qs e groups = map (λ (g : Grouped). if goes_to qs g.partition e then with_entry e g else g) groups

-- the numbers of the groups' partitions
abbrev pub numbers_of : List Grouped → List ℕ
numbers_of groups = map (λ (g : Grouped). g.partition) groups

-- a group without entries
abbrev pub empty_group : ℕ → ℕ → Grouped
empty_group segment n = record { segment = segment; partition = n; entries = [] }
