-- A cleaner that tends the log makes a turn.
use Rattle.std.proofs.Common.{◌≡◌, Option, Some, sym, subst}
use Rattle.std.specs.Prelude.{IfSome, Result}
use Rattle.store_step.specs.master.master_state.Data.{MasterData}
use Rattle.store_step.specs.master.master_state.declared.step.Refusal.{Refusal}
use Rattle.store_step.specs.master.master_state.declared.step.Step.{Step}
use Rattle.store_step.specs.master.master_state.declared.step.StepAnswer.{StepAnswer}
use Rattle.store_step.specs.declared.turn.CleanTurn.{CleanTurn}
use Rattle.store_step.specs.Turns.{step_of}
use Rattle.tending.specs.Tends.{IsTendStep}
use Rattle.locked_log.specs.Held.{Held, knows}
use Rattle.locked_log.specs.Steps.{TendsBy, Turns}

-- what lies under the lock is as it was when the step was chosen
pub tends_by : (s m t : Held) (step : Step) (turn : CleanTurn) (answer : Result StepAnswer Refusal) → m ≡ s
    → IsTendStep (knows m) step → ((d : MasterData) → step_of d turn ≡ Some step) → Turns m turn answer t
    → TendsBy s answer t
tends_by s m t step turn answer same is asks turns =
    subst (λ (h : Held). TendsBy h answer t) same
    (turn, subst (λ (o : Option Step). IfSome o (IsTendStep (knows m))) (sym (asks (knows m))) is, turns)
