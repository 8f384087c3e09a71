-- The commands of clients.
use Rattle.entry.specs.declared.key.Key.{Key}
use Rattle.versioned_map.specs.declared.command.Command.{Command}
use Rattle.versioned_map.specs.declared.command.Command.TheVariants.{Get, Put, Delete}

abbrev pub command_key : Command → Key
command_key (Get k) = k
command_key (Put k value when) = k
command_key (Delete k) = k
