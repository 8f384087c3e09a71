-- The name of each fault and its numbers, in decimal digits.
use Rattle.std.specs.Prelude.{ℕ, List, ◌∷◌, ◌++◌, codes}
use Rattle.std.specs.Fmt.{decimal}
use Rattle.recovery_plan.specs.declared.fault.PlanFault.{PlanFault}
use Rattle.recovery_plan.specs.declared.fault.PlanFault.TheVariants.{NoHead, HeadClosed, Missing, BadReplica, NoMemory}
use Rattle.recovery_plan.specs.declared.fault.PlanFault.TheVariants.{HeadTooOld}

abbrev pub plan_fault_text : PlanFault → List ℕ
plan_fault_text NoHead = codes "NoHead"
plan_fault_text (HeadClosed segment) = codes "HeadClosed " ++ decimal segment
plan_fault_text (Missing segment) = codes "Missing " ++ decimal segment
plan_fault_text (BadReplica backup segment) = codes "BadReplica " ++ decimal backup ++ 32 ∷ decimal segment
plan_fault_text NoMemory = codes "NoMemory"
plan_fault_text (HeadTooOld segment) = codes "HeadTooOld " ++ decimal segment
