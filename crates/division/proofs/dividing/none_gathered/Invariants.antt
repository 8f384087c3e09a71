use Rattle.division.specs.Gathering.{AreEmpty}
use Rattle.division.proofs.dividing.none_gathered.Given as goal

abbrev pub invariant-loop-partition : goal.invariant-loop-partition
invariant-loop-partition l = AreEmpty l.partition l.all.items
