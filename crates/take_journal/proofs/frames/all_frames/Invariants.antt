use Rattle.std.proofs.Common.{◌≡◌, ◌++◌, drop}
use Rattle.take_journal.specs.Frames.{frames, texts_of}
use Rattle.take_journal.proofs.frames.all_frames.Given as goal

abbrev pub invariant-loop-i : goal.invariant-loop-i
invariant-loop-i l = l.bytes.items ++ frames (texts_of (drop l.i l.texts)) ≡ frames (texts_of l.texts)
