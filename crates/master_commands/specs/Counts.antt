-- What a change makes of the counts of a log's segments.
use Rattle.std.specs.Prelude.{◌≡◌, ℕ, ◌+◌, List, length}
use Rattle.master_state.specs.Live.{object_bytes}
use Rattle.master_commands.specs.declared.change.Change.{Change}
use Rattle.master_commands.specs.declared.change.Change.TheVariants as change
use Rattle.tally.specs.Rows.{more, less, IsChangedAt}
use Rattle.tally.specs.declared.tallies.Tally.{Tally}
use Rattle.versioned_map.specs.Command.{command_key}
use Rattle.versioned_map.specs.declared.command.Command.{Command}
use Rattle.versioned_map.specs.declared.command.Command.TheVariants.{Get, Put, Delete}

-- the bytes of the object that a put makes
abbrev pub put_len : Command → ℕ
put_len (Get k) = 0
put_len (Put k value when) = object_bytes k value
put_len (Delete k) = 0

-- the bytes of a tombstone of the command's key
abbrev pub stone_len : Command → ℕ
stone_len command = 27 + length (command_key command).bytes

-- An object of so many bytes dies in a segment. Then the head has so many bytes of an object and of a tombstone more.
abbrev pub IsExchanged : (dead had head live stones : ℕ) → List Tally → List Tally → Type 0
IsExchanged dead had head live stones old new = (mid : List Tally) × IsChangedAt dead (less had) old mid
    × IsChangedAt head (more live stones) mid new

-- The counts follow a change. The dead object, if there is one, has so many bytes in the first segment. The unit was
-- appended to the head.
abbrev pub IsCounted : Command → Change → (dead had head : ℕ) → List Tally → List Tally → Type 0
IsCounted command change.Nothing dead had head old new = new ≡ old
IsCounted command (change.Create version) dead had head old new =
    IsChangedAt head (more (put_len command) 0) old new
IsCounted command (change.Replace was version) dead had head old new =
    IsExchanged dead had head (put_len command) (stone_len command) old new
IsCounted command (change.Delete was) dead had head old new =
    IsExchanged dead had head 0 (stone_len command) old new
