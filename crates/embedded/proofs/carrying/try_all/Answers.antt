use Rattle.std.proofs.Common.{[]}
use Rattle.history.specs.View.{shown_command}
use Rattle.recovery.specs.driving.GoesOn.{goes_nowhere}
use Rattle.embedded.specs.declared.carrying.Tried.TheVariants as tried
use Rattle.embedded.proofs.Going.{lives_same, tried_after}
use Rattle.embedded.proofs.carrying.try_all.Goals as goal

pub loop-init : goal.loop-init
loop-init g c = goes_nowhere c.args.master.now.knows

pub loop-preserved : goal.loop-preserved
loop-preserved g c =
    lives_same _ _ _ [] (lives_same _ _ _ [] c.loop.invariant c.in-Refused.ensures) c.make_way.ensures

pub returns-in-Done : goal.returns-in-Done
returns-in-Done g c =
    tried_after _ _ (shown_command c.args.command.now) (tried.Done c.in-Done.place) _ c.loop.invariant
    c.in-Done.ensures

pub returns-in-Unsure : goal.returns-in-Unsure
returns-in-Unsure g c =
    tried_after _ _ (shown_command c.args.command.now) (tried.Unsure c.in-Unsure.place c.in-Unsure.refusal) _
    c.loop.invariant c.in-Unsure.ensures

pub returns-in-Err : goal.returns-in-Err
returns-in-Err g c =
    lives_same _ _ _ [] (lives_same _ _ _ [] c.loop.invariant c.in-Refused.ensures) c.make_way.ensures
