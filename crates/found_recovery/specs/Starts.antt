-- What is recovered of what a start found.
use Rattle.std.specs.Prelude.{◌≡◌, ◌⊎◌, ◌↔◌, ℕ, List, length, Option, None, Result}
use Rattle.tablet_will.specs.declared.part.Part.{Part}
use Rattle.recovery.specs.claims.declared.rebuilt.Rebuilt.{Rebuilt}
use Rattle.recovery.specs.replay.rebuilding.declared.order.GroupOrder.{GroupOrder}
use Rattle.replica.specs.Picture.{FleetState, shown_of}
use Rattle.replica.specs.Survival.{BothSurvive}
use Rattle.file_fleet.specs.Files.{Files, Noted}
use Rattle.file_fleet.specs.Fleet.{ShowsState}
use Rattle.file_fleet.specs.declared.member.Member.{Member}
use Rattle.fleet_start.specs.Found.{AreRead, is_found}
use Rattle.recovery.specs.master.log_laws.Data.{FailData, IsHome, durable_of}
use Rattle.recovery.specs.master.log_bytes.Choice.{IsNewestOpenedOrNone, IsOpenedHead}
use Rattle.recovery.specs.master.log_bytes.Sound.{IsSoundInBytes}
use Rattle.recovery.specs.master.master_state.declared.step.Refusal.{Refusal}
use Rattle.recovery.specs.master.master_state.declared.step.Step.{Step}
use Rattle.recovery.specs.master.master_state.declared.step.StepAnswer.{StepAnswer}
use Rattle.recovery.specs.master.master_state.Log.{log_of}
use Rattle.recovery.specs.master.Steps.{IsRun}
use Rattle.recovery.specs.master.Valid.{IsValid}
use Rattle.recovery.specs.master.World.{World}
use Rattle.recovery.specs.declared.recovery.RecoveryFault.{RecoveryFault}
use Rattle.recovery.specs.AtStart.{at_start}
use Rattle.recovery.specs.Headline.{Headline, IsLoss, IsNoMemory, IsWholeOrder}
use Rattle.recovery.specs.Orders.{Covers}
use Rattle.recovery.specs.Recovered.{IsRecovered}

-- The files that a start read show this fleet, of as many backups as it looked for.
pub record AreFilesOf {D : Type 0} (noted : Noted) (places : List (Option (Member D))) (f : FleetState) (files : Files)
    : Type 0 where
  pub shows : ShowsState f files
  pub backups : f.backups ≡ length places
  pub read : AreRead noted places files

-- ---- any sound state, whatever it is

-- Say the files show a fleet that shows a sound state of the master. Then the result is the map after a prefix of that
-- state's commands, with each durable one in it.
abbrev pub IsRecoveredOfStart : {D : Type 0} → Noted → List (Option (Member D)) → ℕ → Rebuilt → Type 0
IsRecoveredOfStart noted places master r = (d : FailData) (f : FleetState) (files : Files)
    → AreFilesOf noted places f files → IsSoundInBytes master d (shown_of f master) → d.config.master ≡ master
    → IsRecovered d r

-- Say such a state is given, the will covers the tablets, and the order is forwards or in reverse. Then the fault is a
-- loss, or memory ran out. If both the newest head that counts and the segments are on backups that were found, memory
-- ran out.
abbrev pub IsLossOfStart : {D : Type 0} → Noted → List (Option (Member D)) → ℕ → List Part → GroupOrder
    → RecoveryFault → Type 0
IsLossOfStart noted places master will order e = (d : FailData) (f : FleetState) (files : Files) (newest : Option ℕ)
    → AreFilesOf noted places f files → IsSoundInBytes master d (shown_of f master) → d.config.master ≡ master
    → IsNewestOpenedOrNone (IsOpenedHead d master (shown_of f master)) (f.least master) newest
    → Covers d.config.tablets will → IsWholeOrder order
    → (IsLoss e ⊎ IsNoMemory e)
    × (BothSurvive (IsHome d) newest (shown_of f master) master (is_found places) → IsNoMemory e)

-- ---- a whole life

-- A master took steps, and told its durable count and how many pushes an open failover still needed. It stopped between
-- two steps, and the files that a start read show the fleet that it left. Then the headline is true of the result. The
-- backups that are kept are those that were found.
abbrev pub HasHeadline : {D : Type 0} → Noted → List (Option (Member D)) → ℕ → List Part → GroupOrder
    → Result Rebuilt RecoveryFault → Type 0
HasHeadline noted places master will order recovered = (start stop : World) (steps : List Step)
    (answers : List (Result StepAnswer Refusal)) (durable pushes : ℕ) (files : Files)
    → IsRun start steps answers stop → IsValid stop.knows stop.fleet
    → durable ≡ durable_of (log_of stop.knows) → (stop.knows.failover ≡ None) ↔ (pushes ≡ 0)
    → start.knows.config.master ≡ master → AreFilesOf noted places stop.fleet files
    → Headline (at_start start) steps answers durable pushes stop.fleet (is_found places) will order recovered
