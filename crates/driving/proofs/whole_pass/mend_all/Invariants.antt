use Rattle.std.proofs.Common.{ℕ, []}
use Rattle.master.specs.master_failover.Left.{left_now}
use Rattle.master.specs.World.{world}
use Rattle.driving.specs.Cleans.{AreMended}
use Rattle.driving.specs.Served.{LivesOn}
use Rattle.driving.proofs.whole_pass.mend_all.Given as goal

abbrev pub invariant-loop-master : goal.invariant-loop-master
invariant-loop-master g l = LivesOn l.fn.master.knows l.master.knows []
    × ((count : ℕ) × AreMended count (world g.F.Fleet.state l.fn.master) (world g.F.Fleet.state l.master))

abbrev pub decreases-loop-master : goal.decreases-loop-master
decreases-loop-master g l = left_now l.master.knows
