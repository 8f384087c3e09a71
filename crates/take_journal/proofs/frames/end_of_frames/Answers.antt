use Rattle.std.proofs.Common.{◌∙◌, sym}
use Rattle.take_journal.proofs.Splitting.{end_of-none, end_of-some}
use Rattle.take_journal.proofs.frames.end_of_frames.Goals as goal

pub loop-after-preserved : goal.loop-after-preserved
loop-after-preserved c =
    sym (end_of-some c.loop-after.rest.now _ c.in-Some.after.now c.in-Some.ensures.0) ∙ c.loop-after.invariant

pub returns : goal.returns
returns c = sym (end_of-none c.loop-after.rest.now c.in_default.ensures) ∙ c.loop-after.invariant
