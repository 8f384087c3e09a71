-- What a step that makes no record adds to a master, whichever step it is.
use Rattle.std.proofs.Common.{◌≡◌, Bool, true, false, [], refl, sym, ◌∙◌}
use Rattle.std.proofs.lemmas.List.{append-nil}
use Rattle.std.specs.Prelude.{Result}
use Rattle.master.specs.master_state.declared.step.Refusal.{Refusal}
use Rattle.master.specs.master_state.declared.step.Refusal.TheVariants.{Spent}
use Rattle.master.specs.master_state.declared.step.Step.{Step}
use Rattle.master.specs.master_state.declared.step.Step.TheVariants.{Apply, Push, BeginRoll, Compact, BeginClean, Copy}
use Rattle.master.specs.master_state.declared.step.Step.TheVariants.{Seal}
use Rattle.master.specs.master_state.declared.step.Step.TheVariants.{Free}
use Rattle.master.specs.master_state.declared.step.StepAnswer.{StepAnswer}
use Rattle.master.specs.Keeps.{Keeps}
use Rattle.master.specs.Steps.{Declines, Steps}
use Rattle.master.specs.World.{World}
use Rattle.driving.specs.Served.{IsSpent, LivesOn}
use Rattle.master.proofs.Keeping.{steps_remember}
use Rattle.driving.proofs.MasterSteps.{begun_history, compacted_history, pushed_history, spent_begin, spent_compact}
use Rattle.driving.proofs.MasterSteps.{spent_push}
use Rattle.driving.proofs.PassSteps.{clean_history, copied_history, freed_history, sealed_history, spent_clean}
use Rattle.driving.proofs.PassSteps.{spent_copy, spent_free, spent_seal}

-- any step but a command
abbrev pub makes_no_record : Step → Bool
makes_no_record (Apply seat command) = false
makes_no_record s = true

-- the step hands an op to a backup
abbrev pub hands_op : Step → Bool
hands_op Push = true
hands_op Seal = true
hands_op Free = true
hands_op s = false

same_history : (s : Step) → makes_no_record s ≡ true → (old new : World) (r : Result StepAnswer Refusal)
    → Steps old s r new
    → new.knows.history ≡ old.knows.history
same_history (Apply seat command) none old new r steps = absurd (cc)
same_history Push none old new r steps = pushed_history old new r steps
same_history BeginRoll none old new r steps = begun_history old new r steps
same_history (Compact id) none old new r steps = compacted_history old new id r steps
same_history (BeginClean ids) none old new r steps = clean_history old new ids r steps
same_history Copy none old new r steps = copied_history old new r steps
same_history Seal none old new r steps = sealed_history old new r steps
same_history Free none old new r steps = freed_history old new r steps

-- the master goes on
pub step_goes_on : (s : Step) → makes_no_record s ≡ true → (old new : World) (r : Result StepAnswer Refusal)
    → Steps old s r new → Keeps 1 old new
    → LivesOn old.knows new.knows []
step_goes_on s none old new r steps kept = record {
  config = kept.config;
  origin = kept.origin;
  durable = kept.durable;
  history = same_history s none old new r steps ∙ sym (append-nil old.knows.history);
  forgotten = steps_remember old new s r steps;
}

-- only a step that hands an op to a backup is refused as spent, and by a fleet that is
pub step_spent : (s : Step) → makes_no_record s ≡ true → (old new : World) (r : Refusal) → Declines old s r new
    → r ≡ Spent
    → IsSpent new.fleet × (hands_op s ≡ true)
step_spent (Apply seat command) none old new r declines is = absurd (cc)
step_spent Push none old new r declines is = (spent_push old new r declines is, refl)
step_spent BeginRoll none old new r declines is = absurd (spent_begin old new r declines is)
step_spent (Compact id) none old new r declines is = absurd (spent_compact old new id r declines is)
step_spent (BeginClean ids) none old new r declines is = absurd (spent_clean old new ids r declines is)
step_spent Copy none old new r declines is = absurd (spent_copy old new r declines is)
step_spent Seal none old new r declines is = (spent_seal old new r declines is, refl)
step_spent Free none old new r declines is = (spent_free old new r declines is, refl)
