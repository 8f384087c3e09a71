use Rattle.std.proofs.Common.{ℕ}
use Rattle.driving.specs.Rolls.{ArePushed}
use Rattle.driving.proofs.Losses.{left_to_push}
use Rattle.driving.proofs.pushing.push_all.Given as goal

abbrev pub invariant-loop-refusal : goal.invariant-loop-refusal
invariant-loop-refusal g l =
    let world = g.D.Driven.world in
    g.D.Driven.goes_on (world l.fn.master) (world l.master)
    × ((count : ℕ) × ArePushed count (world l.fn.master) (world l.master))

abbrev pub decreases-loop-refusal : goal.decreases-loop-refusal
decreases-loop-refusal g l = left_to_push (g.D.Driven.world l.master)
