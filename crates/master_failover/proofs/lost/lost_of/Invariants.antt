use Rattle.std.proofs.Common.{◌≡◌, ◌≤◌, ◌+◌, ◌*◌, drop}
use Rattle.entry.specs.View.{shown_ids}
use Rattle.log_head.specs.Log.{but_last}
use Rattle.master_failover.specs.Left.{lost_of}
use Rattle.master_failover.proofs.lost.lost_of.Given as goal

abbrev pub invariant-loop-place : goal.invariant-loop-place
invariant-loop-place l = record {
  lost : l.lost + lost_of l.replicas l.closed.images l.whole (drop l.place (but_last (shown_ids l.digest)))
      ≡ lost_of l.replicas l.closed.images l.whole (but_last (shown_ids l.digest));
  few : l.lost ≤ 64 * l.place;
}
