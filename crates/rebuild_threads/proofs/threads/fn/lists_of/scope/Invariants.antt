use Rattle.std.proofs.Common.{◌≡◌, length}
use Rattle.rebuild_threads.proofs.threads.fn.lists_of.scope.Given as goal

abbrev pub invariant-loop-worker : goal.invariant-loop-worker
invariant-loop-worker g l = length l.ends.items ≡ l.worker
