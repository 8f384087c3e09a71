use Rattle.std.proofs.Common.{take}
use Rattle.std.specs.Prelude.{slice_index}
use Rattle.entry.specs.View.{shown_digest, shown_ids}
use Rattle.recovery_plan.specs.Lost.{HasReplica}
use Rattle.recovery_plan.proofs.missing.has_replica.Given as goal

abbrev pub invariant-loop-holding : goal.invariant-loop-holding
invariant-loop-holding l =
    HasReplica (take l.holding-index l.holdings) l.master (shown_digest l.digest)
    (slice_index (shown_ids l.digest) l.place) → ⊥
