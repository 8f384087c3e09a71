use Rattle.std.proofs.Common.{◌≡◌, ◌++◌, length}
use Rattle.take_journal.specs.Frames.{recovered, texts_of}
use Rattle.take_journal.proofs.frames.read_texts.Given as goal

abbrev pub invariant-loop-text : goal.invariant-loop-text
invariant-loop-text l = texts_of l.texts.items ++ recovered l.rest ≡ recovered l.bytes

abbrev pub decreases-loop-text : goal.decreases-loop-text
decreases-loop-text l = length l.rest
