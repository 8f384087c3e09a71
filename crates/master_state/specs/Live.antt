-- The bytes of the live objects, and what a command makes of them.
use Rattle.std.specs.Prelude.{ℕ, ◌+◌, ◌-◌, ◌^◌, List, length, min, Option, Some, None, if◌then◌else◌}
use Rattle.entry.specs.declared.key.Key.{Key}
use Rattle.entry.specs.Meaning.{Versioned}
use Rattle.versioned_map.specs.declared.command.Command.{Command}
use Rattle.versioned_map.specs.declared.command.Command.TheVariants.{Get, Put, Delete}
use Rattle.versioned_map.specs.Versioned.{is_met}

-- the bytes that an object of this key and value has in a segment
abbrev pub object_bytes : Key → List ℕ → ℕ
object_bytes k value = 23 + length k.bytes + length value

-- the bytes of what a key has
abbrev pub bytes_of : Key → Option Versioned → ℕ
bytes_of k None = 0
bytes_of k (Some x) = object_bytes k x.value

-- a sum that stays at the greatest word of 64 bits
abbrev pub with_bytes : ℕ → ℕ → ℕ
with_bytes live bytes = min (live + bytes) (2 ^ 64 - 1)

-- The bytes of the live objects after a command, if its key has this. A put that is done takes away what the key had,
-- and adds what it has now. A delete takes away what the key had.
abbrev pub live_after : ℕ → Option Versioned → Command → ℕ
live_after live x (Get k) = live
live_after live x (Put k value when) =
    if is_met when x then with_bytes (live - bytes_of k x) (object_bytes k value) else live
live_after live x (Delete k) = live - bytes_of k x
