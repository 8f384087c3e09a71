use Rattle.std.proofs.Common.{ℕ, []}
use Rattle.master.specs.World.{world}
use Rattle.driving.specs.Commands.{ArePushedFor}
use Rattle.driving.specs.Served.{LivesOn}
use Rattle.driving.proofs.Losses.{left_to_push}
use Rattle.driving.proofs.pushing.push_until.Given as goal

abbrev pub invariant-loop-refusal : goal.invariant-loop-refusal
invariant-loop-refusal g l = LivesOn l.fn.master.knows l.master.knows []
    × ((count : ℕ) × ArePushedFor l.fn.place count (world g.F.Fleet.state l.fn.master) (world g.F.Fleet.state l.master))

abbrev pub decreases-loop-refusal : goal.decreases-loop-refusal
decreases-loop-refusal g l = left_to_push (world g.F.Fleet.state l.master)
