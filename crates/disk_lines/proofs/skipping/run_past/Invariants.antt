use Rattle.std.proofs.Common.{◌-◌, ◌^◌, ◌≤◌}
use Rattle.disk_lines.proofs.Past.{IsPast}
use Rattle.disk_lines.proofs.skipping.run_past.Given as goal

abbrev pub invariant-loop-first : goal.invariant-loop-first
invariant-loop-first g l = (l.first ≤ 2 ^ 64 - 1)
    × IsPast l.fn.is_raw l.fn.keeps_going l.fn.store.master.knows (g.R.Read.remaining l.fn.reader)
    (g.W.Write.contents l.fn.writer) l.fn.errors l.first l.store.master.knows (g.R.Read.remaining l.reader)
    (g.W.Write.contents l.writer) l.errors l.skipped

abbrev pub decreases-loop-first : goal.decreases-loop-first
decreases-loop-first g l = 2 ^ 64 - l.first
