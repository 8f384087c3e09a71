-- Histories: the commands that were accepted, in order, each with its seat and its reply.
use Rattle.std.specs.Prelude.{◌≡◌, List, map}
use Rattle.versioned_map.specs.declared.command.Command.{Command}
use Rattle.versioned_map.specs.declared.command.Record.{Record}
use Rattle.versioned_map.specs.declared.command.Reply.{Reply}
use Rattle.versioned_map.specs.Versioned.{State, replies}

abbrev pub commands_of : List Record → List Command
commands_of records = map (λ (r : Record). r.command) records

abbrev pub replies_of : List Record → List Reply
replies_of records = map (λ (r : Record). r.reply) records

-- each reply is the versioned map's, if it starts in the opening state and takes the commands in order
abbrev pub IsLegal : State → List Record → Type 0
IsLegal opening records = replies_of records ≡ replies opening (commands_of records)
