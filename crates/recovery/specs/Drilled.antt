-- A master's steps, its end, and its recovery from what some backups hold.
use Rattle.std.specs.Prelude.{◌≡◌, ◌⊎◌, ◌↔◌, ℕ, List, None, Result, Ok, Err, IfOk, IfErr}
use Rattle.tablet_will.specs.declared.part.Part.{Part}
use Rattle.claims.specs.declared.rebuilt.Rebuilt.{Rebuilt}
use Rattle.replica.specs.declared.holding.Holding.{Holding}
use Rattle.replica.specs.Picture.{FleetState, Shown, AreHeld, shown_of, survivors}
use Rattle.replica.specs.Survival.{BothSurvive}
use Rattle.replay.specs.master.log_laws.Data.{IsHome, durable_of}
use Rattle.replay.specs.master.log_bytes.Choice.{newest_opened}
use Rattle.replay.specs.master.master_state.declared.step.Refusal.{Refusal}
use Rattle.replay.specs.master.master_state.declared.step.Step.{Step}
use Rattle.replay.specs.master.master_state.declared.step.StepAnswer.{StepAnswer}
use Rattle.replay.specs.master.master_state.Log.{log_of}
use Rattle.replay.specs.master.Steps.{IsRun}
use Rattle.replay.specs.master.Valid.{IsValid}
use Rattle.replay.specs.master.World.{World}
use Rattle.recovery.specs.declared.recovery.RecoveryFault.{RecoveryFault}
use Rattle.rebuilding.specs.declared.order.GroupOrder.{GroupOrder}
use Rattle.recovery.specs.Headline.{IsLoss, IsNoMemory}
use Rattle.recovery.specs.Kept.{is_kept}
use Rattle.recovery.specs.Orders.{Covers, NamesHeld}
use Rattle.recovery.specs.Recovered.{IsRecovered, IsRebuiltFrom, IsRefusedFrom}

-- The result is that of some inventory which lists just what is shown. A fault may also be that memory ran out.
abbrev pub IsOfHeld : Shown → ℕ → List Part → GroupOrder → Result Rebuilt RecoveryFault → Type 0
IsOfHeld shown master will order (Ok r) = (inventory : List Holding) × AreHeld inventory shown.holds
    × IsRebuiltFrom inventory shown.least master will order r
IsOfHeld shown master will order (Err e) = IsNoMemory e ⊎ ((inventory : List Holding) × AreHeld inventory shown.holds
    × IsRefusedFrom inventory shown.least master will order e)

-- From this start the steps were taken, and they left this fleet. Whichever backups are kept, and however segments are
-- divided and replayed, what is recovered is exactly the map after a prefix that holds each durable command. If the
-- will covers the tablets and the order names each group once, a refusal names the loss that hides the log, or memory
-- ran out. If the head and the segments survive, only want of memory refuses.
pub record IsDrill (start : World) (steps : List Step) (kept : List ℕ) (will : List Part) (order : GroupOrder)
    (answers : List (Result StepAnswer Refusal)) (recovered : Result Rebuilt RecoveryFault)
    (left : FleetState) : Type 0 where
  pub stop : World
  pub run : IsRun start steps answers stop
  pub fleet : left ≡ stop.fleet
  pub valid : IsValid stop.knows left
  pub asked : IsOfHeld (survivors (is_kept kept) (shown_of left start.knows.config.master))
      start.knows.config.master will order recovered
  pub prefix : IfOk recovered (IsRecovered (log_of stop.knows))
  pub loss : Covers start.knows.config.tablets will
      → NamesHeld (survivors (is_kept kept) (shown_of left start.knows.config.master))
      start.knows.config.master will order
      → IfErr recovered (λ e. (IsLoss e ⊎ IsNoMemory e) × (
      BothSurvive (IsHome (log_of stop.knows)) (newest_opened (log_of stop.knows))
      (shown_of left stop.knows.config.master) stop.knows.config.master (is_kept kept)
      → IsNoMemory e))

-- As it stopped, the master told its durable count, and how many pushes an open failover still needed.
pub record IsTold (start : World) (steps : List Step) (answers : List (Result StepAnswer Refusal)) (durable pushes : ℕ)
    (left : FleetState) : Type 0 where
  pub stop : World
  pub run : IsRun start steps answers stop
  pub fleet : left ≡ stop.fleet
  pub count : durable ≡ durable_of (log_of stop.knows)
  pub calm : (stop.knows.failover ≡ None) ↔ (pushes ≡ 0)
