-- What a client asks of a store.
use Rattle.std.specs.Prelude.{ℕ, List, ◌++◌, codes, decimal}
use Rattle.entry.specs.declared.key.Key.{Key}
use Rattle.versioned_map.specs.declared.command.Command.{Command}
use Rattle.versioned_map.specs.declared.command.Command.TheVariants.{Get, Put, Delete}
use Rattle.versioned_map.specs.declared.command.If.TheVariants.{Any}

-- a client's key: `c` and the client's number, in table 1
abbrev pub key_of : ℕ → Key
key_of client = record { table = 1; bytes = codes "c" ++ decimal client }

-- the put of a round, which has the round's number as value
abbrev pub put_of : ℕ → ℕ → Command
put_of client round = Put (key_of client) (decimal round) Any

-- the get of each round
abbrev pub get_of : ℕ → Command
get_of client = Get (key_of client)

-- the put with this value in place of its own; a command of another kind stays
abbrev pub with_value : Command → List ℕ → Command
with_value (Get key) value = Get key
with_value (Put key old when) value = Put key value when
with_value (Delete key) value = Delete key
