-- When the entries of a log represent a state of the versioned map.
use Rattle.std.specs.Prelude.{◌≡◌, ℕ, ◌<◌, ◌≤◌, ◌⊎◌, ◌↔◌, max, List, [], ◌∷◌, ◌++◌}
use Rattle.std.specs.Prelude.{take, filter, true, Some, None, IsSomeAnd}
use Rattle.std.specs.List.{flat_map}
use Rattle.entry.specs.declared.key.Key.{Key}
use Rattle.entry.specs.declared.entry.Entry.{Entry}
use Rattle.entry.specs.Text.{is_data, are_data}
use Rattle.entry.specs.Meaning.{Versioned, IsOfKey, version_of, IsMeaning, IsClean, among, bound_of}
use Rattle.versioned_map.specs.declared.command.Command.{Command}
use Rattle.versioned_map.specs.Command.{command_key}
use Rattle.versioned_map.specs.Versioned.{State, after_command, after, reply_to, replies, IsSafeAfter}
use Rattle.versioned_map.specs.Units.{unit_given}

-- ---- units

-- the entries that a command appends in this state; the number is the segment where the object of its key lies
abbrev pub unit_of : State → ℕ → Command → List Entry
unit_of st segment command = unit_given st.safe segment (st.contents (command_key command)) command

-- The units of commands, one for each command, in order. The unit of a command that appends nothing is empty. The
-- tombstone of a unit may name any segment.
abbrev pub AreUnitsOf : State → List Command → List (List Entry) → Type 0
AreUnitsOf st [] [] = Unit {0}
AreUnitsOf st [] (u ∷ us) = ⊥
AreUnitsOf st (c ∷ cs) [] = ⊥
AreUnitsOf st (c ∷ cs) (u ∷ us) = ((segment : ℕ) × (u ≡ unit_of st segment c)) × AreUnitsOf (after_command st c) cs us

-- the entries of all units, in order
abbrev pub joined : List (List Entry) → List Entry
joined units = flat_map (λ (u : List Entry). u) units

-- ---- representing

-- The meaning of the bag is the contents of the state, and the bag is clean. Each version that the bag has of an
-- absent key is below the safe version. The safe version is no greater than the recorded one, or no greater than the
-- greatest version in the bag plus 1.
pub record Represents (recorded : ℕ) (bag : List Entry) (st : State) : Type 0 where
  pub meaning : IsMeaning (among bag) st.contents
  pub clean : IsClean (among bag)
  pub below : (k : Key) (e : Entry) → st.contents k ≡ None → among bag e → IsOfKey k e → version_of e < st.safe
  pub safe : st.safe ≤ max recorded (bound_of bag)

-- the map without keys; the first new key gets version 1
abbrev pub empty_state : State
empty_state = record { contents = λ k. None; safe = 1 }

-- the version is below the safe version, or not above the key's present version
abbrev pub IsBounded : State → Key → ℕ → Type 0
IsBounded st k version = (version < st.safe) ⊎ IsSomeAnd (st.contents k) (λ (x : Versioned). version ≤ x.version)

-- ---- laws

-- The empty bag, with the recorded safe version 1, represents the map without keys.
abbrev pub EmptyIsRepresented : Type 0
EmptyIsRepresented = Represents 1 [] empty_state

-- If the bag represents a state, then with a command's unit it represents the state after the command.
abbrev pub UnitIsRepresented : Type 0
UnitIsRepresented = (recorded : ℕ) (bag : List Entry) (st : State) (segment : ℕ) (command : Command)
    → Represents recorded bag st
    → Represents recorded (bag ++ unit_of st segment command) (after_command st command)

-- If the bag represents a state, then with the units of the first commands, however many, it represents the state
-- after these commands.
abbrev pub RunIsRepresented : Type 0
RunIsRepresented =
    (recorded : ℕ) (bag : List Entry) (st : State) (commands : List Command) (units : List (List Entry)) (count : ℕ)
    → Represents recorded bag st → AreUnitsOf st commands units
    → Represents recorded (bag ++ joined (take count units)) (after st (take count commands))

-- The units of commands, with the unit of the next command behind them, are the units of all these commands.
abbrev pub UnitsGoOn : Type 0
UnitsGoOn = (st : State) (commands : List Command) (units : List (List Entry)) (segment : ℕ) (command : Command)
    → AreUnitsOf st commands units
    → AreUnitsOf st (commands ++ command ∷ []) (units ++ unit_of (after st commands) segment command ∷ [])

-- All entries of units are objects and tombstones.
abbrev pub UnitsAreData : Type 0
UnitsAreData = (st : State) (commands : List Command) (units : List (List Entry)) → AreUnitsOf st commands units
    → (are_data (joined units) ≡ true) × (filter is_data (joined units) ≡ joined units)

-- With one more command, the last state is the state after this command, and its reply comes behind the others.
abbrev pub StatesGoOn : Type 0
StatesGoOn = (st : State) (commands : List Command) (command : Command)
    → (after st (commands ++ command ∷ []) ≡ after_command (after st commands) command)
    × (replies st (commands ++ command ∷ []) ≡ replies st commands ++ reply_to (after st commands) command ∷ [])

-- Bags with the same entries, in any order, represent the same state.
abbrev pub MembersRepresent : Type 0
MembersRepresent = (recorded : ℕ) (bag other : List Entry) (st : State) → Represents recorded bag st
    → ((e : Entry) → among bag e ↔ among other e) → Represents recorded other st

-- Each version that the bag has of a key is below the safe version, or not above the key's present version.
abbrev pub EntriesAreBounded : Type 0
EntriesAreBounded = (recorded : ℕ) (bag : List Entry) (st : State) (k : Key) (e : Entry) → Represents recorded bag st
    → among bag e → IsOfKey k e → IsBounded st k (version_of e)

-- A version that a key had at any time is below the present safe version, or not above the key's present version.
abbrev pub VersionsAreBounded : Type 0
VersionsAreBounded = (opening : State) (commands : List Command) (count : ℕ) (k : Key) (x : Versioned)
    → (after opening (take count commands)).contents k ≡ Some x → IsBounded (after opening commands) k x.version

-- If a bag represents the state after commands, then a safe version after them is the greater of two numbers: the
-- recorded safe version, and the greatest version in the bag plus 1.
abbrev pub RepresentedIsSafe : Type 0
RepresentedIsSafe = (recorded : ℕ) (bag : List Entry) (opening : State) (commands : List Command)
    → Represents recorded bag (after opening commands)
    → IsSafeAfter opening commands (max recorded (bound_of bag))
