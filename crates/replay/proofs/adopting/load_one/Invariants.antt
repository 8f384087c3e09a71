use Rattle.entry.specs.View.{shown_object}
use Rattle.driving.specs.master.World.{world}
use Rattle.replay.proofs.LoadList.{HasRoom}
use Rattle.driving.proofs.Losses.{left_to_push}
use Rattle.replay.proofs.adopting.load_one.Given as goal

abbrev pub invariant-loop-refusal : goal.invariant-loop-refusal
invariant-loop-refusal g l =
    HasRoom (shown_object l.fn.object) (world g.F.Fleet.state l.fn.loading) (world g.F.Fleet.state l.loading)

abbrev pub decreases-loop-refusal : goal.decreases-loop-refusal
decreases-loop-refusal g l = left_to_push (world g.F.Fleet.state l.loading)
