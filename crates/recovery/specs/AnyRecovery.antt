-- The headline is true of each recovery that follows a run, by one thread or by several.
use Rattle.std.specs.Prelude.{◌≡◌, ◌↔◌, ℕ, List, None, Result, IfOk, IfErr}
use Rattle.tablet_will.specs.declared.part.Part.{Part}
use Rattle.claims.specs.declared.rebuilt.Rebuilt.{Rebuilt}
use Rattle.rebuilding.specs.declared.order.GroupOrder.{GroupOrder}
use Rattle.replica.specs.declared.holding.Holding.{Holding}
use Rattle.replica.specs.Picture.{AreHeld, left_on}
use Rattle.replay.specs.master.log_laws.Data.{durable_of}
use Rattle.replay.specs.master.master_state.declared.step.Refusal.{Refusal}
use Rattle.replay.specs.master.master_state.declared.step.Step.{Step}
use Rattle.replay.specs.master.master_state.declared.step.StepAnswer.{StepAnswer}
use Rattle.replay.specs.master.master_state.Log.{log_of}
use Rattle.replay.specs.master.Steps.{IsRun}
use Rattle.replay.specs.master.Valid.{IsValid}
use Rattle.replay.specs.master.World.{World}
use Rattle.recovery.specs.declared.recovery.RecoveryFault.{RecoveryFault}
use Rattle.recovery.specs.Headline.{Headline}
use Rattle.recovery.specs.Kept.{is_kept}
use Rattle.recovery.specs.Recovered.{IsSomePrefix, IsSomeLoss}
use Rattle.recovery.specs.AtStart.{at_start}

-- what `recover` and `recover_threads` promise of an inventory, in the same words
pub record Recovers (inventory : List Holding) (least master : ℕ) (will : List Part) (order : GroupOrder)
    (recovered : Result Rebuilt RecoveryFault) : Type 0 where
  pub prefix : IfOk recovered (IsSomePrefix inventory least master)
  pub loss : IfErr recovered (IsSomeLoss inventory least master will order)

-- A master took steps, and told its durable count and how many pushes an open failover still needed. Some backups of
-- its fleet are kept, and an inventory lists what they hold. Then the headline is true of each result that keeps the
-- promise above.
abbrev pub AnyRecoveryHasHeadline : Type 0
AnyRecoveryHasHeadline = (start stop : World) (steps : List Step) (answers : List (Result StepAnswer Refusal))
    (durable pushes : ℕ) (kept : List ℕ) (inventory : List Holding) (will : List Part) (order : GroupOrder)
    (recovered : Result Rebuilt RecoveryFault)
    → IsRun start steps answers stop → IsValid stop.knows stop.fleet
    → durable ≡ durable_of (log_of stop.knows) → (stop.knows.failover ≡ None) ↔ (pushes ≡ 0)
    → AreHeld inventory (left_on (is_kept kept) stop.fleet.picture)
    → Recovers inventory (stop.fleet.least start.knows.config.master) start.knows.config.master will order recovered
    → Headline (at_start start) steps answers durable pushes stop.fleet (is_kept kept) will order recovered
