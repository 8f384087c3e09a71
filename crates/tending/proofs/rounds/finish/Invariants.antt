use Rattle.driving.specs.master.World.{world}
use Rattle.tending.proofs.Rounding.{IsContinued}
use Rattle.tending.proofs.rounds.finish.Given as goal

abbrev pub invariant-loop-made : goal.invariant-loop-made
invariant-loop-made g l = IsContinued l.made (world g.F.Fleet.state l.fn.master) (world g.F.Fleet.state l.master)
