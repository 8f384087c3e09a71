use Rattle.locked_log.proofs.Anew.{Opened}
use Rattle.locked_log.proofs.refiling.open_again.Given as goal

abbrev pub invariant-loop-number : goal.invariant-loop-number
invariant-loop-number l = Opened l.old.items l.number l.book.items
