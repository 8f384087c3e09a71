use Rattle.std.proofs.Common.{◌≡◌, ◌+◌, length}
use Rattle.locked_log.proofs.Anew.{Seated}
use Rattle.locked_log.proofs.refiling.seat_again.Given as goal

abbrev pub invariant-loop-number : goal.invariant-loop-number
invariant-loop-number g l = Seated l.old.items l.number l.given.items
    × (l.share.parts + l.number ≡ length l.old.items) × (l.share.amount ≡ 0)
    × (l.pen.table_id ≡ g.B.Naming.table)
