-- What an accepted command adds.
use Rattle.std.proofs.Common.{◌≡◌, ℕ, [], ◌∷◌, ◌++◌, length, sym, ap, ◌∙◌}
use Rattle.versioned_map.specs.declared.command.Command.{Command}
use Rattle.versioned_map.specs.declared.command.Reply.{Reply}
use Rattle.versioned_map.specs.declared.command.Reply.TheVariants as reply
use Rattle.store_step.specs.master.log_laws.Data.{FailData}
use Rattle.store_step.specs.master.master_state.declared.step.Step.TheVariants.{Apply}
use Rattle.store_step.specs.master.master_state.declared.step.StepAnswer.{StepAnswer}
use Rattle.store_step.specs.master.master_state.declared.step.StepAnswer.TheVariants.{Applied}
use Rattle.store_step.specs.master.master_state.Steps.{reply_now}
use Rattle.store_step.specs.master.Steps.{Accepts}
use Rattle.store_step.specs.master.World.{World}
use Rattle.store_seat.specs.Seats.{record_by}

abbrev place_in : StepAnswer → ℕ
place_in (Applied place answer) = place
place_in _ = 0

abbrev reply_in : StepAnswer → Reply
reply_in (Applied place answer) = answer
reply_in _ = reply.None

module _ (s t : World) (seat : ℕ) (command : Command) (place : ℕ) (answer : Reply)
    (a : Accepts s (Apply seat command) (Applied place answer) t) where
  pub place_is : place ≡ length s.knows.history
  place_is = ap place_in a.0.told

  pub reply_is : answer ≡ reply_now s.knows command
  reply_is = ap reply_in a.0.told

  pub history_is : t.knows.history ≡ s.knows.history ++ record_by seat command answer ∷ []
  history_is = ap (λ (l : FailData). l.history) a.0.log ∙ ap
      (λ (r : Reply). s.knows.history ++ record_by seat command r ∷ []) (sym reply_is)
