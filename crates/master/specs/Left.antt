-- How many pushes an open failover still needs, at most, after a step.
use Rattle.std.specs.Prelude.{◌≡◌, ℕ, ◌<◌, ◌≤◌, Result, Err, IsOk, IsSome}
use Rattle.master_core.specs.master_state.declared.step.Refusal.{Refusal}
use Rattle.master_core.specs.master_state.declared.step.Refusal.TheVariants as refusal
use Rattle.master_core.specs.master_state.declared.step.Step.{Step}
use Rattle.master_core.specs.master_state.declared.step.Step.TheVariants.{Push}
use Rattle.master_core.specs.master_state.declared.step.StepAnswer.{StepAnswer}
use Rattle.master_core.specs.master_failover.Left.{left_now}
use Rattle.master.specs.World.{World}

-- Each push of a failover that is accepted leaves fewer. No step adds any, but one whose take ended in a fault and
-- opened the failover.
pub record GoesOn (old : World) (step : Step) (result : Result StepAnswer Refusal) (new : World) : Type 0 where
  pub lowers : step ≡ Push → IsOk result → IsSome old.knows.failover → left_now new.knows < left_now old.knows
  pub raised : ((b : ℕ) → result ≡ Err (refusal.Lost b) → ⊥) → left_now new.knows ≤ left_now old.knows
