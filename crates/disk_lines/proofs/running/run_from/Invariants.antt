use Rattle.std.proofs.Common.{◌-◌, ◌^◌, ◌≤◌}
use Rattle.disk_lines.specs.Turns.{HasRun}
use Rattle.disk_lines.proofs.running.run_from.Given as goal

abbrev pub invariant-loop-number : goal.invariant-loop-number
invariant-loop-number g l = (l.number ≤ 2 ^ 64 - 1)
    × HasRun l.fn.is_raw l.fn.first l.number l.fn.store.master.knows l.store.master.knows
    (g.R.Read.remaining l.fn.reader) (g.R.Read.remaining l.reader)
    (g.W.Write.contents l.fn.writer) (g.W.Write.contents l.writer)

abbrev pub decreases-loop-number : goal.decreases-loop-number
decreases-loop-number g l = 2 ^ 64 - l.number
