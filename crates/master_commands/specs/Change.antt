-- Changes: what a change appends to the head, and which change a command makes.
use Rattle.std.specs.Prelude.{◌≡◌, ℕ, ◌+◌, ◌-◌, max, List, [], ◌∷◌, ◌++◌, Bool, true, false, Option, Some, None}
use Rattle.std.specs.Option.{option_map}
use Rattle.entry.specs.declared.key.Key.{Key}
use Rattle.entry.specs.declared.entry.Object.{Object}
use Rattle.entry.specs.declared.entry.Entry.{Entry}
use Rattle.entry.specs.declared.entry.Entry.TheVariants as entry
use Rattle.entry.specs.Meaning.{Versioned, versioned}
use Rattle.master_state.specs.compactor.Places.{object_there}
use Rattle.master_commands.specs.declared.change.Change.{Change}
use Rattle.master_commands.specs.declared.change.Change.TheVariants as change
use Rattle.versioned_map.specs.declared.command.Command.{Command}
use Rattle.versioned_map.specs.declared.command.Command.TheVariants.{Get, Put, Delete}
use Rattle.log_head.specs.Head.{len_with}
use Rattle.versioned_map.specs.declared.command.If.{If}
use Rattle.versioned_map.specs.declared.command.Reply.{Reply}
use Rattle.versioned_map.specs.Versioned.{is_spent, reply_given}
use Rattle.versioned_map.specs.Units.{object_entry, tombstone_entry, unit_given, safe_given}
use Rattle.master_state.specs.Causes.{is_empty, dead_segment}
use Rattle.master_state.specs.Data.{MasterData}
use Rattle.master_state.specs.Live.{bytes_of, live_after, object_bytes, with_bytes}
use Rattle.versioned_map.specs.Command.{command_key}
use Rattle.places.specs.declared.place.Held.{Held}
use Rattle.places.specs.declared.place.Place.{Place}
use Rattle.places.specs.Hashing.{hash_of}
use Rattle.master_state.specs.Log.{state_now, held_now, find, images_of}
use Rattle.master_state.specs.Steps.{IsFound}

-- the unit of a command that makes this change, if the dead object lies in this segment
abbrev pub unit_of_change : ℕ → Command → Change → List Entry
unit_of_change segment (Put k value when) (change.Create version) = object_entry k version value ∷ []
unit_of_change segment (Put k value when) (change.Replace dead version) =
    tombstone_entry k dead segment ∷ object_entry k version value ∷ []
unit_of_change segment (Delete k) (change.Delete dead) = tombstone_entry k dead segment ∷ []
unit_of_change segment _ _ = []

-- if the change makes an object, this object begins at this offset once the unit is appended to the image
abbrev pub BeginsAt : List Entry → Command → Change → ℕ → Type 0
BeginsAt image command change at = (segment : ℕ) (front : List Entry) (o : Object)
    → unit_of_change segment command change ≡ front ++ entry.Object o ∷ [] → at ≡ len_with image front

-- the safe version after a change, from the safe version before it
abbrev pub safe_of_change : ℕ → Change → ℕ
safe_of_change safe change.Nothing = safe
safe_of_change safe (change.Create version) = version + 1
safe_of_change safe (change.Replace dead version) = safe
safe_of_change safe (change.Delete dead) = max safe (dead + 1)

-- so many bytes of live objects, with those of the object that a put makes
abbrev pub with_object_of : ℕ → Command → ℕ
with_object_of live (Get k) = live
with_object_of live (Put k value when) = with_bytes live (object_bytes k value)
with_object_of live (Delete k) = live

-- the bytes of the live objects after a change, where the key's object had this many
abbrev pub live_of_change : ℕ → ℕ → Command → Change → ℕ
live_of_change live had command change.Nothing = live
live_of_change live had command (change.Create version) = with_object_of (live - had) command
live_of_change live had command (change.Replace dead version) = with_object_of (live - had) command
live_of_change live had command (change.Delete dead) = live - had

-- ---- the change that a command makes

-- the version of what a key has, if any
abbrev pub version_in : Option Versioned → Option ℕ
version_in x = option_map (λ (v : Versioned). v.version) x

-- the change leaves the map as it is
abbrev pub is_nothing : Change → Bool
is_nothing change.Nothing = true
is_nothing _ = false

-- an absent key gets an object
abbrev pub creates : Change → Bool
creates (change.Create version) = true
creates _ = false

-- the key gets a new object
abbrev pub puts : Change → Bool
puts (change.Create version) = true
puts (change.Replace dead version) = true
puts _ = false

-- The change is the one that the command makes, if this is the safe version and the key has x. A version is left for
-- the command.
pub record IsChangeOf (safe : ℕ) (x : Option Versioned) (command : Command) (change : Change) : Type 0 where
  pub unit : (segment : ℕ) → unit_of_change segment command change ≡ unit_given safe segment x command
  pub safe_after : safe_of_change safe change ≡ safe_given safe x command
  -- the change is Nothing exactly if the command appends nothing
  pub nothing : (segment : ℕ) → is_nothing change ≡ is_empty (unit_given safe segment x command)
  pub not_spent : is_spent safe x command ≡ false
  -- and it makes as many bytes live
  pub live : (live : ℕ)
      → live_of_change live (bytes_of (command_key command) x) command change ≡ live_after live x command

-- the change is that of a put under this condition, for each absent key and each value
abbrev pub Creates : ℕ → If → Change → Type 0
Creates safe when change = (k : Key) (value : List ℕ) → IsChangeOf safe None (Put k value when) change

-- no version is left for a put of an absent key under this condition
abbrev pub CreatesSpent : ℕ → If → Type 0
CreatesSpent safe when = (k : Key) (value : List ℕ) → is_spent safe None (Put k value when) ≡ true

-- the change is that of a put under this condition, for each key whose object has this version, and each value
abbrev pub Replaces : ℕ → If → Change → Type 0
Replaces dead when change = (safe : ℕ) (x : Versioned) (k : Key) (value : List ℕ) → x.version ≡ dead
    → IsChangeOf safe (Some x) (Put k value when) change

-- no version is left for a put under this condition of a key whose object has this version
abbrev pub ReplacesSpent : ℕ → If → Type 0
ReplacesSpent dead when = (safe : ℕ) (x : Versioned) (k : Key) (value : List ℕ) → x.version ≡ dead
    → is_spent safe (Some x) (Put k value when) ≡ true

-- the change is that of the command, for each value that its key may have at this version
abbrev pub IsChangeFrom : ℕ → Option ℕ → Command → Change → Type 0
IsChangeFrom safe version command change =
    (x : Option Versioned) → version_in x ≡ version → IsChangeOf safe x command change

-- no version is left for the command, whatever value its key has at this version
abbrev pub IsSpentFrom : ℕ → Option ℕ → Command → Type 0
IsSpentFrom safe version command =
    (x : Option Versioned) → version_in x ≡ version → is_spent safe x command ≡ true

-- the reply is what the map replies to a command that makes this change, if its key has x
abbrev pub RepliesTo : Option Versioned → Command → Change → Reply → Type 0
RepliesTo x command change answer =
    (safe : ℕ) → IsChangeOf safe x command change → answer ≡ reply_given safe x command

-- the command is a put or a delete
abbrev pub IsNoGet : Command → Type 0
IsNoGet (Get k) = ⊥
IsNoGet (Put k value when) = Unit {0}
IsNoGet (Delete k) = Unit {0}

-- if the command is a put or a delete, this is the map's reply, whatever value its key has at this version
abbrev pub RepliesFrom : Option ℕ → Command → Change → Reply → Type 0
RepliesFrom version command change answer =
    (x : Option Versioned) → version_in x ≡ version → IsNoGet command → RepliesTo x command change answer

-- the map's reply to a command that makes this change has a value, if its key has x
abbrev pub RepliesFound : Option Versioned → Command → Change → Type 0
RepliesFound x command change = (safe : ℕ) → IsChangeOf safe x command change → IsFound (reply_given safe x command)

-- ---- what the tests of a command find

-- the change is the one that the command makes after the history
abbrev pub IsChangeNow : MasterData → Command → Change → Type 0
IsChangeNow d command change = IsChangeOf (state_now d).safe (held_now d command) command change

-- The change is the one that the command makes after the history. The dead object, if there is one, lies in this
-- segment.
pub record IsJudged (d : MasterData) (command : Command) (change : Change) (dead : ℕ) : Type 0 where
  pub lies : dead ≡ dead_segment d command
  pub change_of : IsChangeNow d command change

-- the bytes of what the command's key has
abbrev pub had_now : MasterData → Command → ℕ
had_now d command = bytes_of (command_key command) (held_now d command)

-- The hash is that of the key. If the index finds the key, the place is where it finds the key.
pub record IsSought (d : MasterData) (k : Key) (held : Held) : Type 0 where
  pub hash : held.hash ≡ hash_of d.index.seed k
  pub place : (p : Place) → find d k ≡ Some p → held.place ≡ p

-- what a key has: if it has a version, the object that stands at this place; else nothing
abbrev pub found_at : (ℕ → List Entry) → Option ℕ → Place → Option Versioned
found_at images None p = None
found_at images (Some version) p = option_map versioned (object_there images p)

-- The command's key has this version, or none. Its object, if there is one, stands at this place.
pub record IsPresent (d : MasterData) (command : Command) (present : Option ℕ) (p : Place) : Type 0 where
  pub version : version_in (held_now d command) ≡ present
  pub stands : found_at (images_of d) present p ≡ held_now d command
