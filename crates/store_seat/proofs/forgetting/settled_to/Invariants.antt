use Rattle.store_seat.specs.Accounts.{IsSettled}
use Rattle.store_seat.proofs.forgetting.settled_to.Given as goal

abbrev pub invariant-loop-place : goal.invariant-loop-place
invariant-loop-place l = IsSettled l.from l.book.items l.history.records l.place
