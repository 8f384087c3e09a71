-- Relations between the places of an index before and after a call.
use Rattle.std.specs.Prelude.{◌≡◌, ℕ, ◌+◌, ◌<◌, ◌≤◌, ◌^◌, List, ◌++◌, length, Bool, true, Option}
use Rattle.std.specs.List.{AllByRecursion}
use Rattle.entry.specs.declared.key.Key.{Key}
use Rattle.places.specs.declared.place.Place.{Place}
use Rattle.places.specs.declared.place.Held.{Held}
use Rattle.places.specs.Lists.{AreKeptIn, IsSameMapIn}

-- each hash in the list passes the test
abbrev pub HashesPass : (ℕ → Bool) → List Held → Type 0
HashesPass p hs = AllByRecursion (λ (h : Held). p h.hash ≡ true) hs

-- the new list has no hash that the old list didn't have
abbrev pub BringsNoHash : List Held → List Held → Type 0
BringsNoHash old new = (p : ℕ → Bool) → HashesPass p old → HashesPass p new

-- the new list is the same map and has as many places, perhaps in another order
pub record IsShuffled (old new : List Held) : Type 0 where
  pub same : (hash_of : Key → ℕ) (keys : Place → Option Key) → AreKeptIn hash_of keys old
      → IsSameMapIn hash_of keys old new
  pub len : length new ≡ length old

-- the places in a list, and for how many more places it has room
pub record ListValue : Type 0 where
  pub held : List Held
  pub room : ℕ

-- The parts of an index fit together. The count is the number of places in the table and in the waiting list. The
-- count plus the room is a number of 64 bits. The waiting list has memory for the room.
pub record IsWhole (table : List Held) (waiting : ListValue) (len room : ℕ) : Type 0 where
  pub counted : len ≡ length (table ++ waiting.held)
  pub fits : len + room < 2 ^ 64
  pub taken : room ≤ waiting.room
