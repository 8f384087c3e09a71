use Rattle.std.proofs.Common.{◌≡◌, ◌++◌, take, vec_capacity}
use Rattle.log_head.proofs.leaving.list_all.Given as goal

abbrev pub invariant-loop-segment : goal.invariant-loop-segment
invariant-loop-segment l = record {
  items : l.segments.items ≡ l.fn.segments.items ++ take l.segment-index l.more;
  capacity : vec_capacity l.segments ≡ vec_capacity l.fn.segments;
}
