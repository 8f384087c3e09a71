use Rattle.std.proofs.Common.{◌≡◌, ◌++◌, drop, map}
use Rattle.master.specs.Segments.{waiting_row}
use Rattle.master.proofs.segments.add_waiting.Given as goal

abbrev pub invariant-loop-waiting : goal.invariant-loop-waiting
invariant-loop-waiting l =
    l.rows.items ++ map waiting_row (drop l.waiting-index l.waiting-items)
    ≡ l.fn.rows.items ++ map waiting_row l.waiting-items
