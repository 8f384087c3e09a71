use Rattle.std.proofs.Common.{◌≡◌}
use Rattle.driving.specs.master.World.{world}
use Rattle.tending.proofs.weighing.count_all.Given as goal

abbrev pub invariant-loop-id : goal.invariant-loop-id
invariant-loop-id g l = world g.F.Fleet.state l.master ≡ world g.F.Fleet.state l.fn.master
