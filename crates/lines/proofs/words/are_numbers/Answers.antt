use Rattle.std.proofs.Common.{rules}
use Rattle.lines.proofs.NumberWords.{one_less}
use Rattle.lines.proofs.words.are_numbers.Goals as goal

pub loop-word-preserved : goal.loop-word-preserved
loop-word-preserved c = one_less _ _ _ _ c.in-Some.ensures (c.is_number.ensures.0 (search rules)) c.loop-word.invariant
