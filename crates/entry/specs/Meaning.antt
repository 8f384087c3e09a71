-- The meaning of a bag of entries: at each key the entry of greatest rank counts. A bag is given as a predicate on
-- entries, which is true of those in the bag. Only its objects and tombstones count.
use Rattle.std.specs.Prelude.{◌≡◌, ℕ, ◌+◌, ◌*◌, ◌≤◌, ◌↔◌, max, List, [], ◌∷◌, Option, Some, None, if◌then◌else◌}
use Rattle.entry.specs.declared.key.Key.{Key}
use Rattle.entry.specs.declared.entry.Object.{Object}
use Rattle.entry.specs.declared.entry.Entry.{Entry}
use Rattle.entry.specs.declared.entry.Entry.TheVariants as entry
use Rattle.entry.specs.Bag.{IsAmong}
use Rattle.entry.specs.Order.{key_eq}

-- the version and the value of an object
pub record Versioned : Type 0 where
  pub version : ℕ
  pub value : List ℕ

-- at each key a version and a value, or nothing
abbrev pub Contents : Type 0
Contents = Key → Option Versioned

-- ---- rank

-- the entry is an object or a tombstone of the key
abbrev pub IsOfKey : Key → Entry → Type 0
IsOfKey k (entry.Header h) = ⊥
IsOfKey k (entry.Digest ids) = ⊥
IsOfKey k (entry.Safe version) = ⊥
IsOfKey k (entry.Object o) = o.key ≡ k
IsOfKey k (entry.Tombstone t) = t.key ≡ k

abbrev pub version_of : Entry → ℕ
version_of (entry.Header h) = 0
version_of (entry.Digest ids) = 0
version_of (entry.Safe version) = 0
version_of (entry.Object o) = o.version
version_of (entry.Tombstone t) = t.version

-- A greater version ranks higher. At the same version a tombstone ranks above an object.
abbrev pub rank_of : Entry → ℕ
rank_of (entry.Header h) = 0
rank_of (entry.Digest ids) = 0
rank_of (entry.Safe version) = 0
rank_of (entry.Object o) = 2 * o.version
rank_of (entry.Tombstone t) = 2 * t.version + 1

-- ---- meaning

-- the entry is in the bag, is of the key, and no entry of the key in the bag ranks above it
pub record IsTop (k : Key) (bag : Entry → Type 0) (e : Entry) : Type 0 where
  pub held : bag e
  pub of_key : IsOfKey k e
  pub highest : (f : Entry) → bag f → IsOfKey k f → rank_of f ≤ rank_of e

abbrev pub object_at : Key → Versioned → Entry
object_at k x = entry.Object (record { key = k; version = x.version; value = x.value })

-- the contents have a version and a value at a key exactly if the object with them is the key's entry of greatest rank
abbrev pub IsMeaning : (Entry → Type 0) → Contents → Type 0
IsMeaning bag contents = (k : Key) (x : Versioned) → (contents k ≡ Some x) ↔ IsTop k bag (object_at k x)

-- objects of one key and one version have the same value
abbrev pub IsClean : (Entry → Type 0) → Type 0
IsClean bag = (o p : Object) → bag (entry.Object o) → bag (entry.Object p) → o.key ≡ p.key → o.version ≡ p.version
    → o.value ≡ p.value

-- ---- lists

-- the bag of the entries in a list
abbrev pub among : List Entry → Entry → Type 0
among es e = IsAmong e es

-- the greatest version in the list, plus 1; 0 if the list is empty
abbrev pub bound_of : List Entry → ℕ
bound_of [] = 0
bound_of (e ∷ es) = max (version_of e + 1) (bound_of es)

abbrev pub versioned : Object → Versioned
versioned o = record { version = o.version; value = o.value }

-- the contents of a list of objects: at each key the first object of this key counts
abbrev pub contents_of : List Object → Contents
contents_of [] k = None
contents_of (o ∷ os) k = if key_eq k o.key then Some (versioned o) else contents_of os k
