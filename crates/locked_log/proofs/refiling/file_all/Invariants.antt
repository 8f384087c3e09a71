use Rattle.std.proofs.Common.{◌≡◌, drop, length, take}
use Rattle.locked_log.specs.Renews.{AreFiled}
use Rattle.locked_log.proofs.refiling.file_all.Given as goal

abbrev pub invariant-loop-i : goal.invariant-loop-i
invariant-loop-i g l =
    AreFiled l.old.items (take l.i (drop g.B.Labels.start l.history.records)) l.row l.book.items l.total.total
    l.seats.items × (length l.row ≡ length l.fn.row)
