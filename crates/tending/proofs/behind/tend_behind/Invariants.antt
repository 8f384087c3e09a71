use Rattle.driving.specs.master.World.{world}
use Rattle.tending.proofs.Tended.{IsShortSoFar}
use Rattle.tending.proofs.behind.tend_behind.Given as goal

abbrev pub invariant-loop-made : goal.invariant-loop-made
invariant-loop-made g l = IsShortSoFar l.fn.policy l.made (world g.F.Fleet.state l.fn.master)
    (world g.F.Fleet.state l.master)
