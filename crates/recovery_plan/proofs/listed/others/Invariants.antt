use Rattle.std.proofs.Common.{take}
use Rattle.std.specs.Ordering.{nat_cmp}
use Rattle.std.specs.BTreeMap.{get}
use Rattle.entry.specs.View.{shown_digest, shown_ids}
use Rattle.recovery_plan.specs.Looked.{AreFound}
use Rattle.recovery_plan.proofs.listed.others.Given as goal

abbrev pub invariant-loop-place : goal.invariant-loop-place
invariant-loop-place l =
    AreFound (get nat_cmp l.best) (shown_digest l.digest) (take l.place (shown_ids l.digest)) l.others.items
