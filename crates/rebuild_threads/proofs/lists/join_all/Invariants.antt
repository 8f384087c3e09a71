use Rattle.std.proofs.Common.{◌≡◌}
use Rattle.rebuild_threads.proofs.lists.join_all.Given as goal

abbrev pub invariant-loop-n : goal.invariant-loop-n
invariant-loop-n g l = l.joined ≡ l.n
