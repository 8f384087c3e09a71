use Rattle.std.proofs.Common.{ℕ, []}
use Rattle.master.specs.World.{world}
use Rattle.driving.specs.Cleans.{AreTurned}
use Rattle.driving.specs.Served.{LivesOn}
use Rattle.driving.proofs.Turns.{IsLate, left_to_turn}
use Rattle.driving.proofs.whole_pass.turn_all.Given as goal

abbrev pub invariant-loop-step : goal.invariant-loop-step
invariant-loop-step g l = LivesOn l.fn.master.knows l.master.knows []
    × ((count : ℕ) × AreTurned count (world g.F.Fleet.state l.fn.master) (world g.F.Fleet.state l.master))
    × IsLate (world g.F.Fleet.state l.master)

abbrev pub decreases-loop-step : goal.decreases-loop-step
decreases-loop-step g l = left_to_turn (world g.F.Fleet.state l.master)
