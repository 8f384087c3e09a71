-- A run goes on by a step.
use Rattle.std.proofs.Common.{◌≡◌, List, [], ◌∷◌, ◌++◌, refl, sym, subst}
use Rattle.std.specs.Prelude.{Result}
use Rattle.master_core.specs.master_state.declared.step.Refusal.{Refusal}
use Rattle.master_core.specs.master_state.declared.step.Step.{Step}
use Rattle.master_core.specs.master_state.declared.step.StepAnswer.{StepAnswer}
use Rattle.master.specs.Steps.{Steps, IsNextStop, IsRun}
use Rattle.master.specs.World.{World}

run_on : (old mid new : World) (steps : List Step) (answers : List (Result StepAnswer Refusal)) (s : Step)
    (a : Result StepAnswer Refusal)
    → IsRun old steps answers mid → Steps mid s a new → IsNextStop mid new
    → IsRun old (steps ++ s ∷ []) (answers ++ a ∷ []) new
run_on old mid new [] [] s a run step stop = subst (λ (w : World). IsRun w (s ∷ []) (a ∷ []) new) run
    (new, step, stop, refl)
run_on old mid new [] (b ∷ bs) s a run step stop = absurd run
run_on old mid new (r ∷ rs) [] s a run step stop = absurd run
run_on old mid new (r ∷ rs) (b ∷ bs) s a run step stop =
    (run.0, run.1, run.2, run_on run.0 mid new rs bs s a run.3 step stop)

-- one more step, and its answer at the end of the answers
pub run_pushed : (old mid new : World) (steps : List Step) (answers all : List (Result StepAnswer Refusal)) (s : Step)
    (a : Result StepAnswer Refusal)
    → all ≡ answers ++ a ∷ [] → IsRun old steps answers mid → Steps mid s a new → IsNextStop mid new
    → IsRun old (steps ++ s ∷ []) all new
run_pushed old mid new steps answers all s a is run step stop =
    subst (λ (every : List (Result StepAnswer Refusal)). IsRun old (steps ++ s ∷ []) every new) (sym is)
    (run_on old mid new steps answers s a run step stop)
