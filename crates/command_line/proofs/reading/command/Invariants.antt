use Rattle.std.proofs.Common.{drop}
use Rattle.command_line.proofs.Ramlog.{Growing}
use Rattle.command_line.proofs.reading.command.Given as goal

abbrev pub invariant-loop-option : goal.invariant-loop-option
invariant-loop-option l = Growing l.command (drop l.option-index l.option-items)
