use Rattle.std.specs.Prelude.{◌≡◌, Some, take}
use Rattle.take_journal.specs.Frames.{texts_of}
use Rattle.registry_file.specs.Kept.{kept_in, kept_of}
use Rattle.registry_file.proofs.whole.replay.Given as goal

abbrev pub invariant-loop-i : goal.invariant-loop-i
invariant-loop-i l = kept_of (texts_of (take l.i l.fn.texts)) ≡ Some (kept_in l.registry)
