-- The texts of faults.
use Rattle.std.specs.Prelude.{ℕ, List}
use Rattle.recovery_plan.specs.Texts.{plan_fault_text}
use Rattle.claims.specs.Texts.{replay_fault_text}
use Rattle.recovery.specs.declared.recovery.RecoveryFault.{RecoveryFault}
use Rattle.recovery.specs.declared.recovery.RecoveryFault.TheVariants.{Plan, Replay}

abbrev pub recovery_fault_text : RecoveryFault → List ℕ
recovery_fault_text (Plan fault) = plan_fault_text fault
recovery_fault_text (Replay fault) = replay_fault_text fault
