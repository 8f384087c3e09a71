use Rattle.replay.proofs.Needed.{IsOnTheWay}
use Rattle.replay.proofs.needs.seglets_needed.Given as goal

abbrev pub invariant-loop-object : goal.invariant-loop-object
invariant-loop-object l = IsOnTheWay l.fn.config l.fn.rebuilt.objects l.object-iterator l.log
