use Rattle.std.specs.Io.KnownBytes.{Keeps}
use Rattle.disk_lines.specs.Turns.{IsGathered}
use Rattle.disk_lines.proofs.gathering.gather.Given as goal

abbrev pub invariant-loop-count : goal.invariant-loop-count
invariant-loop-count g l = record {
  gathered : IsGathered l.fn.is_raw l.count l.fn.store.master.knows l.store.master.knows
      (g.R.Read.remaining l.fn.reader) (g.R.Read.remaining l.reader);
  flushed : Keeps (g.W.Write.contents l.fn.writer) (g.W.Write.contents l.writer);
}
