use Rattle.std.proofs.Common.{[]}
use Rattle.recovery.specs.driving.Served.{LivesOn}
use Rattle.embedded.proofs.carrying.try_all.Given as goal

abbrev pub invariant-loop : goal.invariant-loop
invariant-loop g l = LivesOn l.fn.master.knows l.master.knows []
