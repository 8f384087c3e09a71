use Rattle.std.proofs.Common.{ℕ, ◌<◌}
use Rattle.std.specs.Prelude.{slice_index}
use Rattle.entry.specs.View.{shown_digest, shown_ids}
use Rattle.recovery_plan.specs.Lost.{HasReplica}
use Rattle.recovery_plan.proofs.missing.first_missing.Given as goal

abbrev pub invariant-loop-place : goal.invariant-loop-place
invariant-loop-place l =
    (k : ℕ) → k < l.place
    → HasReplica l.holdings l.master (shown_digest l.digest) (slice_index (shown_ids l.digest) k)
