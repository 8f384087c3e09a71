-- A step by hand of a node's master, told of the master's life.
use Rattle.std.proofs.Common.{[], ◌≡◌, ◌∙◌, true, false, refl, subst}
use Rattle.std.specs.Prelude.{Option, None, Some, Result, Ok, Err, IfSome}
use Rattle.backup.specs.State.{fleet_state}
use Rattle.backup.specs.declared.fleet.MemoryFleet.{MemoryFleet}
use Rattle.lines.specs.Grammar.{LineValue}
use Rattle.answers.specs.driving.master.master_state.declared.config.Config.{Config}
use Rattle.answers.specs.driving.master.master_state.declared.step.Refusal.{Refusal}
use Rattle.answers.specs.driving.master.master_state.declared.step.Step.{Step}
use Rattle.answers.specs.driving.master.master_state.declared.step.Step.TheVariants.{Apply, Push, BeginRoll, Compact}
use Rattle.answers.specs.driving.master.master_state.declared.step.Step.TheVariants.{BeginClean, Copy, Seal}
use Rattle.answers.specs.driving.master.master_state.declared.step.Step.TheVariants.{Free}
use Rattle.answers.specs.driving.master.master_state.declared.step.StepAnswer.{StepAnswer}
use Rattle.answers.specs.driving.master.Keeps.{Keeps}
use Rattle.answers.specs.driving.master.Steps.{Accepts, Declines, Steps}
use Rattle.answers.specs.driving.master.Valid.{IsValid}
use Rattle.answers.specs.driving.master.World.{MasterValue, world}
use Rattle.answers.specs.declared.answer.Answer.{Answer}
use Rattle.answers.specs.declared.answer.Answer.TheVariants as answer
use Rattle.cluster.specs.declared.node.Node.{Node}
use Rattle.cluster.specs.declared.node.Node.TheVariants.{Up}
use Rattle.cluster.specs.Lives.{Life}
use Rattle.answers.specs.driving.Served.{LivesOn}
use Rattle.cluster.specs.Served.{AnswersLine, AnswersStep, Refuses, is_up}
use Rattle.cluster.specs.Told.{IsStepOf, IsStepRefusal, StepRuns, command_of, is_for_master, line_of, pushes}
use Rattle.answers.proofs.of_driving.AnyStep.{hands_op, makes_no_record, step_goes_on, step_spent}
use Rattle.cluster.proofs.Standing.{down_told}
use Rattle.cluster.proofs.Steps.{IsLineOf, refusal_told, run_told}

-- ---- lines of steps

-- A line that asks for this step is for a master, asks for no command, and hands an op to a backup if the step does. A
-- step that is refused is told as such.
pub record IsOfStep (s : Step) (line : LineValue) : Type 0 where
  pub up : is_for_master line ≡ true
  pub alone : command_of line ≡ None
  pub ops : pushes line ≡ hands_op s
  pub none : makes_no_record s ≡ true
  pub refused : (config : Config) (life : Life) (r : Refusal) → IsStepOf config life line (Err r)
      → IsStepRefusal config life line r

asks : (s : Step) → IfSome (line_of s) (IsOfStep s)
asks (Apply seat command) = tt
asks Push = record { up = refl; alone = refl; ops = refl; none = refl; refused = λ config life r is. is }
asks BeginRoll = record { up = refl; alone = refl; ops = refl; none = refl; refused = λ config life r is. is }
asks (Compact segment) = record { up = refl; alone = refl; ops = refl; none = refl; refused = λ config life r is. is }
asks (BeginClean victims) = record {
  up = refl;
  alone = refl;
  ops = refl;
  none = refl;
  refused = λ config life r is. is;
}
asks Copy = record { up = refl; alone = refl; ops = refl; none = refl; refused = λ config life r is. is }
asks Seal = record { up = refl; alone = refl; ops = refl; none = refl; refused = λ config life r is. is }
asks Free = record { up = refl; alone = refl; ops = refl; none = refl; refused = λ config life r is. is }

pub of_step : (s : Step) (line : LineValue) → line_of s ≡ Some line → IsOfStep s line
of_step s line is = subst (λ (o : Option LineValue). IfSome o (IsOfStep s)) is (asks s)

-- what is so of each line that asks for a step
each_line : (s : Step) (P : LineValue → Type 0) → ((line : LineValue) → line_of s ≡ Some line → P line)
    → IfSome (line_of s) P
each_line s P all = go (line_of s) all
  where
    go : (o : Option LineValue) → ((line : LineValue) → o ≡ Some line → P line) → IfSome o P
    go None each = tt
    go (Some line) each = each line refl

-- ---- a node without a master

pub down_answers : (node : Node) (config : Config) (step : Step) → is_up node ≡ false
    → AnswersStep node config step node answer.Down
down_answers node config step down = each_line step
    (λ (line : LineValue). AnswersLine node config line node answer.Down)
    (λ line is. down_told node config line down (of_step step line is).up)

-- ---- a node with a master

-- a line that asks for this step is told so
of_line : (s : Step) (line : LineValue) → line_of s ≡ Some line → IsLineOf StepAnswer (StepRuns s) answer.Step line
of_line s line is = record {
  up = (of_step s line is).up;
  made = λ config life at none x ran. (none, (s, is, ran), refl);
  refused = λ config life r ran. (of_step s line is).refused config life r (s, is, ran);
}

module _ (node : Node) (up m : MasterValue MemoryFleet) (there : node ≡ Up up) (step : Step)
    (now : IsValid m.knows (fleet_state m.fleet)) (kept : Keeps 1 (world fleet_state up) (world fleet_state m))
    (config : Config) where
  goes_on : (line : LineValue) → line_of step ≡ Some line → (r : Result StepAnswer Refusal)
      → Steps (world fleet_state up) step r (world fleet_state m) → LivesOn up.knows m.knows []
  goes_on line is r ran =
      step_goes_on step (of_step step line is).none (world fleet_state up) (world fleet_state m) r ran kept

  pub made_told : (a : StepAnswer) → Accepts (world fleet_state up) step a (world fleet_state m)
      → AnswersStep node config step (Up m) (answer.Step a)
  made_told a gives = each_line step (λ (line : LineValue). AnswersLine node config line (Up m) (answer.Step a))
      (λ line is. run_told StepAnswer (StepRuns step) answer.Step node up m there line (of_line step line is) now
      (goes_on line is (Ok a) gives) a gives config)

  pub refused_told : (r : Refusal) → Declines (world fleet_state up) step r (world fleet_state m) → (new : Node)
      (a : Answer) → Refuses (Up m) r new a → AnswersStep node config step new a
  refused_told r gives new a refuses = each_line step (λ (line : LineValue). AnswersLine node config line new a)
      (λ line is.
      let its = of_step step line is in
      let spent = step_spent step its.none (world fleet_state up) (world fleet_state m) r gives in
      refusal_told StepAnswer (StepRuns step) answer.Step node up m there line (of_line step line is) now
      (goes_on line is (Err r) gives) r gives (λ why. (spent why).0) (λ why. its.ops ∙ (spent why).1) new a refuses
      config)
