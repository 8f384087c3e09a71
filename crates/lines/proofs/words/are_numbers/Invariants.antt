use Rattle.std.proofs.Common.{◌↔◌, length}
use Rattle.std.specs.List.{All, slice_split}
use Rattle.lines.specs.Cutting.{IsNumberWord, is_space}
use Rattle.lines.proofs.words.are_numbers.Given as goal

abbrev pub invariant-loop-word : goal.invariant-loop-word
invariant-loop-word l = All IsNumberWord (slice_split is_space l.text) ↔ All IsNumberWord l.words

abbrev pub decreases-loop-word : goal.decreases-loop-word
decreases-loop-word l = length l.words
