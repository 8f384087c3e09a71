use Rattle.std.proofs.Common.{◌≡◌, drop}
use Rattle.master_state.specs.cleaner.Seals.{first_lacking}
use Rattle.entry.specs.View.{shown_ids}
use Rattle.log_head.specs.Log.{but_last}
use Rattle.master_failover.proofs.lost.first_lost.Given as goal

abbrev pub invariant-loop-place : goal.invariant-loop-place
invariant-loop-place l = first_lacking l.replicas l.closed.images (drop l.place (but_last (shown_ids l.digest)))
    ≡ first_lacking l.replicas l.closed.images (but_last (shown_ids l.digest))
