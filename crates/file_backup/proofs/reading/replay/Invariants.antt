use Rattle.std.specs.Prelude.{◌≡◌, Some, take}
use Rattle.take_journal.specs.Frames.{texts_of}
use Rattle.file_backup.specs.Replay.{held_in, shown}
use Rattle.file_backup.proofs.reading.replay.Given as goal

abbrev pub invariant-loop-i : goal.invariant-loop-i
invariant-loop-i l = shown (texts_of (take l.i l.fn.texts)) ≡ Some (held_in l.memory)
