use Rattle.std.proofs.Common.{refl}
use Rattle.entry.specs.View.{shown_digest, shown_ids}
use Rattle.recovery_plan.specs.Lost.{HasReplica}
use Rattle.recovery_plan.proofs.Lost.{each_more}
use Rattle.recovery_plan.proofs.missing.first_missing.Goals as goal

pub loop-place-preserved : goal.loop-place-preserved
loop-place-preserved c =
    each_more (HasReplica c.args.holdings.now c.args.master (shown_digest c.args.digest.now))
    (shown_ids c.args.digest.now) c.loop-place.place c.loop-place.invariant (c.if-not-has_replica.ensures.0 refl)
