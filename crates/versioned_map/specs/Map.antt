-- A versioned map that is kept as a list of objects.
use Rattle.std.specs.Prelude.{◌≡◌, ◌≢◌, ◌<◌, ℕ, List, length, slice_index_or, Bool, false, Option, is_some}
use Rattle.std.specs.List.{AllPairs}
use Rattle.entry.specs.declared.key.Key.{Key}
use Rattle.entry.specs.declared.entry.Object.{Object}
use Rattle.entry.specs.Meaning.{Versioned, contents_of}
use Rattle.versioned_map.specs.declared.command.Command.{Command}
use Rattle.versioned_map.specs.declared.command.Command.TheVariants.{Get, Put, Delete}
use Rattle.versioned_map.specs.Versioned.{State, is_met}

pub record MapValue : Type 0 where
  pub objects : List Object
  pub safe : ℕ

-- no two objects of the list have the same key
abbrev pub AreOfDifferentKeys : List Object → Type 0
AreOfDifferentKeys os = AllPairs (λ (o p : Object). o.key ≢ p.key) os

-- the state of the map: the contents of its objects, and its safe version
abbrev pub map_state : MapValue → State
map_state m = record { contents = contents_of m.objects; safe = m.safe }

-- the object of this key is in this slot of the list
pub record IsAtSlot (os : List Object) (k : Key) (slot : ℕ) : Type 0 where
  pub within : slot < length os
  pub of_key : (d : Object) → (slice_index_or os slot d).key ≡ k

-- A command may fail if it needs memory or a new version: a get of a present key, and a put whose condition is met.
-- The first argument is what the key has.
abbrev pub may_fail : Option Versioned → Command → Bool
may_fail x (Get k) = is_some x
may_fail x (Put k value when) = is_met when x
may_fail x (Delete k) = false
