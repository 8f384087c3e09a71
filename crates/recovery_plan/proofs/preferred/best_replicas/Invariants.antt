use Rattle.std.proofs.Common.{take}
use Rattle.std.specs.Ordering.{nat_cmp}
use Rattle.std.specs.BTreeMap.{get}
use Rattle.recovery_plan.specs.Looked.{ArePreferred}
use Rattle.recovery_plan.proofs.preferred.best_replicas.Given as goal

abbrev pub invariant-loop-holding : goal.invariant-loop-holding
invariant-loop-holding l = ArePreferred l.master (take l.holding-index l.holdings) (get nat_cmp l.best)
