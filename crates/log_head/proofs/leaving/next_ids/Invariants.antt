use Rattle.std.proofs.Common.{vec_capacity}
use Rattle.entry.specs.Limits.{ids_in}
use Rattle.entry.specs.View.{shown_ids}
use Rattle.log_head.proofs.Digests.{IsPushed}
use Rattle.log_head.proofs.leaving.next_ids.Given as goal

abbrev pub invariant-loop-place : goal.invariant-loop-place
invariant-loop-place l =
    IsPushed l.leaving.victims.now (shown_ids l.digest) (ids_in l.leaving.survivors.now) l.ids.items (ids_in l.waits)
    l.place (vec_capacity l.ids)
