use Rattle.std.proofs.Common.{◌≤◌, ◌++◌, length}
use Rattle.place_index.specs.Steps.{IsShuffled}
use Rattle.place_index.proofs.index.take_in.Given as goal

abbrev pub invariant-loop-left : goal.invariant-loop-left
invariant-loop-left g l = record {
  places : IsShuffled (g.T.Table.places l.initial.table ++ l.initial.waiting.held)
      (g.T.Table.places l.table ++ l.waiting.held);
  room : l.initial.waiting.room ≤ l.waiting.room;
  within : l.left ≤ length l.waiting.held;
}

abbrev pub decreases-loop-left : goal.decreases-loop-left
decreases-loop-left g l = l.left
