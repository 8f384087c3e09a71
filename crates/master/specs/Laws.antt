-- What a push answers that may not open the new head of a failover.
use Rattle.std.specs.Prelude.{◌≡◌, false, Result, Err, Some}
use Rattle.master_core.specs.master_state.declared.step.Refusal.{Refusal}
use Rattle.master_core.specs.master_state.declared.step.Refusal.TheVariants as refusal
use Rattle.master_core.specs.master_state.declared.step.Step.TheVariants.{Push}
use Rattle.master_core.specs.master_state.declared.step.StepAnswer.{StepAnswer}
use Rattle.master_core.specs.master_state.Budget.{may_turn}
use Rattle.master_core.specs.master_state.Steps.{halted}
use Rattle.master_core.specs.master_failover.declared.push.Push.TheVariants as push
use Rattle.master_core.specs.master_failover.Mending.{IsNextPushOf}
use Rattle.master.specs.Steps.{Steps}
use Rattle.master.specs.World.{World}

-- It answers Halted and nothing else: the master stays halted, and the fleet stays as it was.
abbrev pub StuckHalts : Type 0
StuckHalts = (old : World) (result : Result StepAnswer Refusal) (new : World) → old.knows.is_halted ≡ false
    → IsNextPushOf old.knows (Some push.Turn) → may_turn old.knows ≡ false → Steps old Push result new
    → (result ≡ Err refusal.Halted) × (new ≡ record old { knows = halted old.knows })
