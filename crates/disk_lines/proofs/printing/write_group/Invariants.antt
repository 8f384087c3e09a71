use Rattle.std.proofs.Common.{◌-◌}
use Rattle.disk_lines.specs.Turns.{told_from}
use Rattle.std.specs.Io.KnownBytes.{Appends}
use Rattle.disk_lines.proofs.printing.write_group.Given as goal

abbrev pub invariant-loop-place : goal.invariant-loop-place
invariant-loop-place g l = Appends (g.W.Write.contents l.fn.writer) (g.W.Write.contents l.writer)
    (told_from l.fn.is_raw l.fn.store.master.knows l.fn.why l.fn.first (l.place - l.fn.first))
