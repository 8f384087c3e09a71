use Rattle.std.proofs.Common.{◌≡◌, length}
use Rattle.rebuild_threads.proofs.lists.place_all.Given as goal

abbrev pub invariant-loop-list : goal.invariant-loop-list
invariant-loop-list g l = length l.places.items ≡ length l.initial.places.items
