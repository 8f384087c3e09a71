-- A command that was tried, from its steps.
use Rattle.std.proofs.Common.{ℕ, ◌<◌, [], subst, ◌∙◌, inr, arith}
use Rattle.std.specs.Prelude.{Err}
use Rattle.std.proofs.lemmas.List.{append-nil}
use Rattle.versioned_map.specs.declared.command.Command.{Command}
use Rattle.versioned_map.specs.declared.command.Reply.{Reply}
use Rattle.master.specs.log_laws.Data.{durable_of}
use Rattle.master.specs.master_state.declared.step.Refusal.{Refusal}
use Rattle.master.specs.master_state.declared.step.Step.TheVariants.{Apply}
use Rattle.master.specs.master_state.declared.step.StepAnswer.TheVariants.{Applied}
use Rattle.master.specs.master_state.Log.{log_of}
use Rattle.master.specs.Keeps.{Keeps}
use Rattle.master.specs.Steps.{Accepts}
use Rattle.master.specs.World.{World}
use Rattle.driving.specs.Commands.{PushesTo, StopsShort, Tries}
use Rattle.driving.specs.Served.{LivesOn, IsServedAt}
use Rattle.driving.proofs.MasterSteps.{applied_goes_on}

pub served_at : (old mid new : World) (command : Command) (at : ℕ) (reply : Reply)
    → Accepts old (Apply 0 command) (Applied at reply) mid → Keeps 1 old mid → LivesOn mid.knows new.knows []
    → at < durable_of (log_of new.knows) → PushesTo at mid new → IsServedAt old command at new
served_at old mid new command at reply applied keeps goes_on durable pushed =
    let first = applied_goes_on old mid command at reply applied keeps in record {
      reply = reply;
      served = (
        record {
          config = goes_on.config ∙ first.0.config;
          origin = goes_on.origin ∙ first.0.origin;
          durable = (let before = first.0.durable in let after = goes_on.durable in omega arith);
          history = goes_on.history ∙ append-nil mid.knows.history ∙ first.0.history;
          forgotten = goes_on.forgotten ∙ first.0.forgotten;
        },
        subst (λ (n : ℕ). n < durable_of (log_of new.knows)) first.1 durable,
      );
      tried = record { place = at; mid = mid; applied = applied; pushed = pushed };
      place = first.1;
    }

pub cut_short : (old mid new : World) (command : Command) (place : ℕ) (reply : Reply) (r : Refusal)
    → Accepts old (Apply 0 command) (Applied place reply) mid → StopsShort place mid r new
    → Tries old command (Err r) new
cut_short old mid new command place reply r applied pushed =
    inr (record { place = place; reply = reply; mid = mid; applied = applied; pushed = pushed })
