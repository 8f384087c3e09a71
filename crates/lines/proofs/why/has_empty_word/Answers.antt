use Rattle.lines.proofs.Among.{one_read}
use Rattle.lines.proofs.why.has_empty_word.Goals as goal

pub loop-word-preserved : goal.loop-word-preserved
loop-word-preserved c = one_read _ _ _ c.in-Some.word.now c.loop-word.invariant c.in-Some.ensures
