use Rattle.std.proofs.Common.{length}
use Rattle.lines.specs.Cutting.{words_left}
use Rattle.lines.proofs.Among.{AreLeft}
use Rattle.lines.proofs.why.wrong_number.Given as goal

abbrev pub invariant-loop-word : goal.invariant-loop-word
invariant-loop-word l = AreLeft (words_left l.rest) l.words

abbrev pub decreases-loop-word : goal.decreases-loop-word
decreases-loop-word l = length l.words
