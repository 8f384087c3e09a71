use Rattle.std.proofs.Common.{◌≡◌, ◌≤◌, vec_len}
use Rattle.std.specs.List.{range_with_len}
use Rattle.std.specs.Vec.{vec_capacity}
use Rattle.master_state.specs.Steps.{listed_in}
use Rattle.master_rolls.proofs.rolling.list_survivors.Given as goal

abbrev pub invariant-loop-at : goal.invariant-loop-at
invariant-loop-at l = record {
  so_far : l.segments.items ≡ listed_in l.closed.images (range_with_len l.survivors.first l.at);
  count : vec_len l.segments ≡ l.at;
  room : l.survivors.count ≤ vec_capacity l.segments;
}
