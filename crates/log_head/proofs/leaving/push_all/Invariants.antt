use Rattle.std.proofs.Common.{◌≡◌, ◌++◌, take, vec_capacity}
use Rattle.entry.specs.Limits.{ids_in}
use Rattle.log_head.proofs.leaving.push_all.Given as goal

abbrev pub invariant-loop-segment : goal.invariant-loop-segment
invariant-loop-segment l = record {
  items : l.ids.items ≡ l.fn.ids.items ++ ids_in (take l.segment-index l.segments);
  capacity : vec_capacity l.ids ≡ vec_capacity l.fn.ids;
}
