use Rattle.std.proofs.Common.{◌≡◌, ◌+◌, ◌≤◌, length, drop}
use Rattle.entry.specs.View.{shown_ids}
use Rattle.log_laws.specs.Ids.{without}
use Rattle.log_head.proofs.leaving.count_left.Given as goal

abbrev pub invariant-loop-place : goal.invariant-loop-place
invariant-loop-place l = record {
  left : l.left + length (without l.victims (drop l.place (shown_ids l.digest)))
      ≡ length (without l.victims (shown_ids l.digest));
  few : l.left ≤ l.place;
}
