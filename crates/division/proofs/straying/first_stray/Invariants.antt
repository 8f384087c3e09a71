use Rattle.segment.specs.View.{entries_left}
use Rattle.division.proofs.Strays.{IsCoveredTo}
use Rattle.division.proofs.straying.first_stray.Given as goal

abbrev pub invariant-loop-entry : goal.invariant-loop-entry
invariant-loop-entry l = IsCoveredTo l.will l.segment (entries_left l.entry-iterator)
