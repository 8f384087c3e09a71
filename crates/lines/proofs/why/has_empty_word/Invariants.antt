use Rattle.std.proofs.Common.{length}
use Rattle.std.specs.List.{slice_split}
use Rattle.lines.specs.Cutting.{is_space}
use Rattle.lines.proofs.Among.{AreLeft}
use Rattle.lines.proofs.why.has_empty_word.Given as goal

abbrev pub invariant-loop-word : goal.invariant-loop-word
invariant-loop-word l = AreLeft (slice_split is_space l.text) l.words

abbrev pub decreases-loop-word : goal.decreases-loop-word
decreases-loop-word l = length l.words
