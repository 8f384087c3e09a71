use Rattle.std.proofs.Common.{◌≡◌, length}
use Rattle.rebuild_threads.proofs.threads.lists_from.Given as goal

abbrev pub invariant-loop-worker : goal.invariant-loop-worker
invariant-loop-worker g l = length l.places.items ≡ l.partitions
