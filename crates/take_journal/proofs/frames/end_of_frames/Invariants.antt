use Rattle.std.proofs.Common.{◌≡◌, length}
use Rattle.take_journal.specs.Frames.{end_of}
use Rattle.take_journal.proofs.frames.end_of_frames.Given as goal

abbrev pub invariant-loop-after : goal.invariant-loop-after
invariant-loop-after l = end_of l.rest ≡ end_of l.bytes

abbrev pub decreases-loop-after : goal.decreases-loop-after
decreases-loop-after l = length l.rest
