-- The live objects of a table.
use Rattle.std.specs.Prelude.{◌≡◌, ℕ, List, map, Some, ◌==◌}
use Rattle.std.specs.Cmp.Lexicographic.{slice_cmp}
use Rattle.std.specs.List.{filter}
use Rattle.std.specs.List.Sorted.{IsStrictlySortedBy}
use Rattle.std.specs.Ordering.{nat_cmp}
use Rattle.entry.specs.declared.key.Key.{Key}
use Rattle.entry.specs.declared.entry.Object.{Object}
use Rattle.entry.specs.Bag.{IsAmong}
use Rattle.entry.specs.Meaning.{Versioned, Contents, versioned}

-- ---- what is answered

-- The list has the objects that the contents have of the table, and nothing else, in the order of their keys' bytes.
pub record AreObjectsOf (contents : Contents) (table : ℕ) (objects : List Object) : Type 0 where
  -- each listed object is of the table, and is what the contents have at its key
  pub only : (o : Object) → IsAmong o objects → (o.key.table ≡ table) × (contents o.key ≡ Some (versioned o))
  -- no key of the table is left out: whatever the contents have at it is listed
  pub all : (k : Key) (x : Versioned) → k.table ≡ table → contents k ≡ Some x
      → IsAmong (record { key = k; version = x.version; value = x.value }) objects
  -- the bytes of the keys rise, so each key is there once
  pub order : IsStrictlySortedBy (slice_cmp nat_cmp) (map (λ (o : Object). o.key.bytes) objects)

-- ---- how they are found

-- the objects of the list that are of this table
abbrev pub of_table : ℕ → List Object → List Object
of_table table os = filter (λ (o : Object). o.key.table == table) os
