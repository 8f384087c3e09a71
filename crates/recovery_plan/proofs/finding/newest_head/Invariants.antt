use Rattle.std.proofs.Common.{take}
use Rattle.recovery_plan.specs.Good.{AreGood}
use Rattle.recovery_plan.specs.Planned.{AreNewest}
use Rattle.recovery_plan.proofs.finding.newest_head.Given as goal

abbrev pub invariant-loop-holding : goal.invariant-loop-holding
invariant-loop-holding l = record {
  good : AreGood l.master (take l.holding-index l.holdings);
  newest : AreNewest l.master (take l.holding-index l.holdings) l.newest.id l.newest.taken;
}
