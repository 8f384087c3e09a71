use Rattle.compactor.specs.Log.{ids_of_log}
use Rattle.cleaner.proofs.Batches.{Many, IsFilling}
use Rattle.cleaner.proofs.filling.fill.Given as goal

abbrev pub invariant-loop-start : goal.invariant-loop-start
invariant-loop-start l = IsFilling (ids_of_log l.log) l.index.held l.id l.segment l.limit l.fn.from l.at l.level

abbrev pub decreases-loop-start : goal.decreases-loop-start
decreases-loop-start l = Many (ids_of_log l.log) l.index.held l.id l.segment l.at
