use Rattle.driving.specs.master.World.{world}
use Rattle.tending.proofs.Tended.{IsSoFar}
use Rattle.tending.proofs.steps.tend.Given as goal

abbrev pub invariant-loop-made : goal.invariant-loop-made
invariant-loop-made g l = IsSoFar l.made (world g.F.Fleet.state l.fn.master) (world g.F.Fleet.state l.master)
