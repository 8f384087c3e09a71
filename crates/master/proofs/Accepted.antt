-- What the core says of a command that it was asked to apply, of the master and its fleet.
use Rattle.std.proofs.Common.{◌≡◌, ◌⊎◌, ℕ, refl, sym, subst}
use Rattle.std.specs.Prelude.{Result, Ok, Err, IfOk, IfErr, OnOk, OnErr, Some, None}
use Rattle.replica.specs.Picture.{FleetState}
use Rattle.versioned_map.specs.declared.command.Command.{Command}
use Rattle.master_core.specs.master_state.declared.step.Refusal.{Refusal}
use Rattle.master_core.specs.master_state.declared.step.StepAnswer.{StepAnswer}
use Rattle.master_core.specs.master_state.declared.step.Refusal.TheVariants as refusal
use Rattle.master_core.specs.master_state.declared.step.Step.TheVariants.{Apply}
use Rattle.master_core.specs.master_state.Causes.{command_refusal}
use Rattle.master_core.specs.master_state.Data.{MasterData}
use Rattle.master_core.specs.master_state.Invariant.{IsCore}
use Rattle.master_core.specs.master_state.Steps.{Applies, MayApplyNow}
use Rattle.master.specs.Invariant.{IsWellKept}
use Rattle.master.specs.Keeps.{Keeps}
use Rattle.master.specs.Steps.{Accepts, Declines}
use Rattle.master.specs.World.{World}
use Rattle.master.proofs.Applied.{applied_kept}
use Rattle.master.proofs.Keeping.{steps_keep, steps_remember}

-- the answer of the step, by what the call answered
module _ (A : Type 0) (answer_of : A → StepAnswer) where
  -- whether it was applied or refused
  pub kept_then : (d e : MasterData) (f : FleetState) (seat : ℕ) (command : Command)
      (result : Result A Refusal) → IsWellKept d f
      → IfOk result (λ a. Applies d seat command (answer_of a) e)
      → OnOk result (MayApplyNow d seat command) → OnOk result (IsCore e)
      → OnErr result (e ≡ d) → IsWellKept e f
  kept_then d e f seat command (Ok a) kept is may core same =
      applied_kept d e f seat command (answer_of a) kept is may core
  kept_then d e f seat command (Err r) kept is may core same =
      subst (λ (m : MasterData). IsWellKept m f) (sym same) kept

  -- what the core says of an answer or a refusal, of the world
  module _ (d e : MasterData) (f : FleetState) (seat : ℕ) (command : Command) where
    abbrev before : World
    before = record { knows = d; fleet = f }

    abbrev after : World
    after = record { knows = e; fleet = f }

    pub accepts : (result : Result A Refusal) → IfOk result (λ a. Applies d seat command (answer_of a) e)
        → IfOk result (λ a. Accepts before (Apply seat command) (answer_of a) after)
    accepts (Ok a) is = (is, refl)
    accepts (Err r) is = tt

    abbrev IsCause : Refusal → Type 0
    IsCause r = (command_refusal d command ≡ Some r) ⊎ ((command_refusal d command ≡ None) × (r ≡ refusal.NoMemory))

    pub declines : (result : Result A Refusal) → IfErr result IsCause → OnErr result (e ≡ d)
        → IfErr result (λ r. Declines before (Apply seat command) r after)
    declines (Ok a) is same = tt
    declines (Err r) is same = (λ i. record { knows = same i; fleet = f }, is)

  -- a command keeps what every step keeps
  pub command_keeps : (old new : World) (seat : ℕ) (command : Command) (result : Result A Refusal)
      → IsWellKept old.knows old.fleet
      → IfOk result (λ a. Accepts old (Apply seat command) (answer_of a) new)
      → IfErr result (λ r. Declines old (Apply seat command) r new) → Keeps 1 old new
  command_keeps old new seat command (Ok a) kept accepted refused =
      steps_keep old new (Apply seat command) (Ok (answer_of a)) kept accepted
  command_keeps old new seat command (Err r) kept accepted refused =
      steps_keep old new (Apply seat command) (Err r) kept refused

  -- and forgets nothing
  pub command_remembers : (old new : World) (seat : ℕ) (command : Command) (result : Result A Refusal)
      → IfOk result (λ a. Accepts old (Apply seat command) (answer_of a) new)
      → IfErr result (λ r. Declines old (Apply seat command) r new) → new.knows.forgotten ≡ old.knows.forgotten
  command_remembers old new seat command (Ok a) accepted refused =
      steps_remember old new (Apply seat command) (Ok (answer_of a)) accepted
  command_remembers old new seat command (Err r) accepted refused =
      steps_remember old new (Apply seat command) (Err r) refused
