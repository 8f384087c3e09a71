-- What a line makes of a node: what its command does, and which least heads it raises.
use Rattle.std.proofs.Common.{◌≡◌, ℕ, sym, subst}
use Rattle.std.specs.Prelude.{Option, Some, IfSome}
use Rattle.lines.specs.Grammar.{LineValue, Idle, Put, New, Cas, Get, Del, Compact, Roll, BeginRoll, Push, Log, Room}
use Rattle.lines.specs.Grammar.{Hex, Stop, Fault, Crash, Lose, Will, Recover, Holdings, Clean, Begin, Copy, Seal, Free}
use Rattle.lines.specs.Grammar.{Clients, Format, Listing, LiveBytes, Needs, Seglets, Segments, Tend}
use Rattle.versioned_map.specs.declared.command.Command.{Command}
use Rattle.versioned_map.specs.declared.command.Command.TheVariants as command
use Rattle.versioned_map.specs.declared.command.If.TheVariants.{Any, Absent, Version}
use Rattle.cluster.specs.master.master_state.declared.step.Step.TheVariants as step
use Rattle.cluster.specs.answers.declared.answer.Answer.{Answer}
use Rattle.cluster.specs.declared.node.Node.{Node}
use Rattle.cluster.specs.declared.node.Node.TheVariants.{Up, Down, Changing}
use Rattle.cluster.specs.Tended.{MakesTended, steps_behind}
use Rattle.cluster.specs.Told.{command_of}
use Rattle.cluster.proofs.LeastHeads.{IsUpTo, StaysUnraised, clean_made, loses_unraised, made, roll_made}
use Rattle.cluster.proofs.LeastHeads.{same_fleet, same_node, step_made, stops_unraised, tend_made}
use Rattle.cluster.proofs.BesideCleaner.{tended_made}
use Rattle.cluster_lines.specs.Clients.{MakesClients}
use Rattle.cluster_lines.specs.Lines.{MakesLine}

-- what a command's line makes is what its command does
pub command_makes : (tend : ℕ) (old : Node) (line : LineValue) (new : Node) (a : Answer) (command : Command)
    → command_of line ≡ Some command
    → MakesTended (steps_behind tend command) old command new a → MakesLine tend old line new a
command_makes tend old Roll new a command asks makes = absurd (cc)
command_makes tend old BeginRoll new a command asks makes = absurd (cc)
command_makes tend old (Compact segment) new a command asks makes = absurd (cc)
command_makes tend old Push new a command asks makes = absurd (cc)
command_makes tend old (Clean victims) new a command asks makes = absurd (cc)
command_makes tend old (Begin victims) new a command asks makes = absurd (cc)
command_makes tend old Copy new a command asks makes = absurd (cc)
command_makes tend old Seal new a command asks makes = absurd (cc)
command_makes tend old Free new a command asks makes = absurd (cc)
command_makes tend old (Tend steps) new a command asks makes = absurd (cc)
command_makes tend old Idle new a command asks makes = absurd (cc)
command_makes tend old (Hex segment) new a command asks makes = absurd (cc)
command_makes tend old Log new a command asks makes = absurd (cc)
command_makes tend old Room new a command asks makes = absurd (cc)
command_makes tend old Segments new a command asks makes = absurd (cc)
command_makes tend old (Listing table) new a command asks makes = absurd (cc)
command_makes tend old LiveBytes new a command asks makes = absurd (cc)
command_makes tend old Holdings new a command asks makes = absurd (cc)
command_makes tend old Will new a command asks makes = absurd (cc)
command_makes tend old (Stop takes) new a command asks makes = absurd (cc)
command_makes tend old (Fault takes taken) new a command asks makes = absurd (cc)
command_makes tend old Format new a command asks makes = absurd (cc)
command_makes tend old (Seglets seglets) new a command asks makes = absurd (cc)
command_makes tend old Needs new a command asks makes = absurd (cc)
command_makes tend old Crash new a command asks makes = absurd (cc)
command_makes tend old (Lose backup) new a command asks makes = absurd (cc)
command_makes tend old (Recover order) new a command asks makes = absurd (cc)
command_makes tend old (Clients clients rounds passes) new a command asks makes = absurd (cc)
command_makes tend old line new a command asks makes =
    subst (λ (o : Option Command). IfSome o (λ (c : Command). MakesTended (steps_behind tend c) old c new a)) (sym asks)
    makes

-- no line raises a least head of a master with a greater number than the node's
module _ (number : ℕ) where
  clients_made : (old : Node) (clients rounds : ℕ) (new : Node) (a : Answer) → MakesClients old clients rounds new a
      → IsUpTo number old → StaysUnraised number old new
  clients_made (Up m) clients rounds new a is below = made number m is.1 a new is.4 below is.2.goes_on.least
  clients_made (Down fleet) clients rounds new a is below = same_node number (Down fleet) new is.0
  clients_made Changing clients rounds new a is below = same_node number Changing new is.0

  pub line_unraised : (tend : ℕ) (old : Node) (line : LineValue) (new : Node) (a : Answer)
      → MakesLine tend old line new a
      → IsUpTo number old → StaysUnraised number old new
  line_unraised tend old Roll new a is below = roll_made number old new a is below
  line_unraised tend old BeginRoll new a is below = step_made number old step.BeginRoll new a is below
  line_unraised tend old (Compact segment) new a is below = step_made number old (step.Compact segment) new a is below
  line_unraised tend old Push new a is below = step_made number old step.Push new a is below
  line_unraised tend old (Clean victims) new a is below = clean_made number old victims new a is below
  line_unraised tend old (Begin victims) new a is below = step_made number old (step.BeginClean victims) new a is below
  line_unraised tend old Copy new a is below = step_made number old step.Copy new a is below
  line_unraised tend old Seal new a is below = step_made number old step.Seal new a is below
  line_unraised tend old Free new a is below = step_made number old step.Free new a is below
  line_unraised tend old (Tend steps) new a is below = tend_made number old steps new a is below
  line_unraised tend old Idle new a is below = same_node number old new is
  line_unraised tend old (Hex segment) new a is below = same_node number old new is.0
  line_unraised tend old Log new a is below = same_node number old new is.0
  line_unraised tend old Room new a is below = same_node number old new is.0
  line_unraised tend old Segments new a is below = same_node number old new is.0
  line_unraised tend old (Listing table) new a is below = same_node number old new is.0
  line_unraised tend old LiveBytes new a is below = same_node number old new is.0
  line_unraised tend old Holdings new a is below = same_node number old new is.0
  line_unraised tend old Will new a is below = same_node number old new is
  line_unraised tend old (Stop takes) new a is below = stops_unraised number old takes new is.1
  line_unraised tend old (Fault takes taken) new a is below = same_fleet number old new is.1
  line_unraised tend old Format new a is below = same_node number old new is
  line_unraised tend old (Seglets seglets) new a is below = same_node number old new is
  line_unraised tend old Needs new a is below = same_node number old new is
  line_unraised tend old Crash new a is below = same_fleet number old new is.1
  line_unraised tend old (Lose backup) new a is below = loses_unraised number old backup new is
  line_unraised tend old (Recover order) new a is below = absurd is
  line_unraised tend old (Clients clients rounds passes) new a is below = clients_made old clients rounds new a is below
  line_unraised tend old (Put table key value) new a is below =
      tended_made number tend old (command.Put (record { table = table; bytes = key }) value Any) new a is below
  line_unraised tend old (New table key value) new a is below =
      tended_made number tend old (command.Put (record { table = table; bytes = key }) value Absent) new a is below
  line_unraised tend old (Cas table key version value) new a is below =
      tended_made number tend old (command.Put (record { table = table; bytes = key }) value (Version version)) new a
      is below
  line_unraised tend old (Get table key) new a is below =
      tended_made number 0 old (command.Get (record { table = table; bytes = key })) new a is below
  line_unraised tend old (Del table key) new a is below =
      tended_made number tend old (command.Delete (record { table = table; bytes = key })) new a is below
