use Rattle.std.proofs.Common.{subst, sym}
use Rattle.take_journal.specs.Frames.{IsShort}
use Rattle.take_journal.proofs.Onward.{short_at}
use Rattle.take_journal.proofs.frames.all_frames.Goals as goal

pub add_frame-requires : goal.add_frame-requires
add_frame-requires c = record {
  short = subst IsShort (sym c.deref.ensures.value)
      (short_at c.args.texts.now c.loop-i.i c.index-texts-i.result c.loop-i-test.true c.index-texts-i.is
      c.requires.short);
}
