-- What a recovery gives back, and why it may give nothing back.
use Rattle.std.specs.Prelude.{◌≡◌, ◌⊎◌, ℕ, Bool, Option, ◌<◌, ◌≤◌, ◌↔◌, List}
use Rattle.entry.specs.Bag.{IsAmong}
use Rattle.replica.specs.declared.holding.Holding.{Holding}
use Rattle.replica.specs.Picture.{Shown, IsHeld, survivors}
use Rattle.replica.specs.Survival.{BothSurvive}
use Rattle.tablet_will.specs.declared.part.Part.{Part}
use Rattle.claims.specs.division.Division.{AreCovered}
use Rattle.recovery_plan.specs.declared.chosen.Plan.{Plan}
use Rattle.recovery_plan.specs.Planned.{IsPlan, IsPlanFault, NamesLoss}
use Rattle.claims.specs.declared.rebuilt.Rebuilt.{Rebuilt}
use Rattle.claims.specs.Bags.{segments_bag}
use Rattle.claims.specs.Rebuilt.{IsRebuilt}
use Rattle.rebuilding.specs.Rebuilds.{IsRebuildFault, NamesEach, count_of}
use Rattle.rebuilding.specs.Turns.{replayed}
use Rattle.rebuilding.specs.Orders.{order_for}
use Rattle.replay.specs.master.log_laws.Data.{FailData, IsHome, durable_of}
use Rattle.replay.specs.master.log_bytes.Choice.{IsOpenedHead, IsNewestOpenedOrNone}
use Rattle.replay.specs.master.log_bytes.Sound.{IsSoundInBytes}
use Rattle.recovery.specs.declared.recovery.RecoveryFault.{RecoveryFault}
use Rattle.recovery.specs.declared.recovery.RecoveryFault.TheVariants as fault
use Rattle.rebuilding.specs.declared.order.GroupOrder.{GroupOrder}
use Rattle.recovery.specs.Headline.{IsLoss, IsMapAfter, IsNoMemory}
use Rattle.recovery.specs.Orders.{Covers, NamesGroups}

-- of this master's replicas the inventory lists just those that are shown
abbrev pub Shows : List Holding → Shown → ℕ → Type 0
Shows inventory shown master = (h : Holding) → h.master ≡ master → IsAmong h inventory ↔ IsHeld shown.holds h

-- the map after a prefix of the log's commands, each durable one among them
abbrev pub IsRecovered : FailData → Rebuilt → Type 0
IsRecovered d r = IsMapAfter d.opening d.history (durable_of d) r

-- ---- acknowledged

-- the record at this place, or a later one, was answered
abbrev pub IsAcknowledged : List ℕ → ℕ → Type 0
IsAcknowledged answered place = (later : ℕ) × IsAmong later answered × (place ≤ later)

-- If durable records alone are answered, each acknowledged one is among those that are recovered.
abbrev pub AcknowledgedAreRecovered : Type 0
AcknowledgedAreRecovered = (d : FailData) (r : Rebuilt) (answered : List ℕ) (found : IsRecovered d r)
    → ((place : ℕ) → IsAmong place answered → place < durable_of d)
    → (place : ℕ) → IsAcknowledged answered place → place < found.count

-- ---- any sound state, whatever it is

-- Say the inventory lists what is left of some sound state of the master, with this least head. Then the result is the
-- map after a prefix of that state's commands, with each durable one in it.
abbrev pub IsSomePrefix : List Holding → ℕ → ℕ → Rebuilt → Type 0
IsSomePrefix inventory least master r = (d : FailData) (shown : Shown) (keep : ℕ → Bool)
    → IsSoundInBytes master d shown → d.config.master ≡ master → shown.least ≡ least
    → Shows inventory (survivors keep shown) master → IsRecovered d r

-- Say such a state is given, the will covers the tablets, and the order names each group once. Then the fault is a
-- loss, or memory ran out. If both the newest head that counts and the segments survive, memory ran out.
abbrev pub IsSomeLoss : List Holding → ℕ → ℕ → List Part → GroupOrder → RecoveryFault → Type 0
IsSomeLoss inventory least master will order e = (d : FailData) (shown : Shown) (keep : ℕ → Bool) (newest : Option ℕ)
    → IsSoundInBytes master d shown → IsNewestOpenedOrNone (IsOpenedHead d master shown) shown.least newest
    → d.config.master ≡ master → shown.least ≡ least
    → Shows inventory (survivors keep shown) master
    → Covers d.config.tablets will → NamesGroups inventory least master will order
    → (IsLoss e ⊎ IsNoMemory e) × (BothSurvive (IsHome d) newest shown master keep → IsNoMemory e)

-- ---- any inventory, whatever it shows

-- The result is what the log of a plan of the inventory stands for. The will gives each key of that log a partition,
-- and the order names each group once. Replaying the groups in that order gives the same result.
pub record IsRebuiltFrom (inventory : List Holding) (least master : ℕ) (will : List Part) (order : GroupOrder)
    (r : Rebuilt) : Type 0 where
  pub plan : Plan
  pub planned : IsPlan inventory least master plan
  pub covered : AreCovered will (segments_bag plan.segments)
  pub whole : NamesEach (count_of plan.segments will) (order_for plan will order)
  pub rebuilt : IsRebuilt plan.segments plan.safe r
  pub turns : IsRebuilt (replayed plan.segments will (order_for plan will order)) plan.safe r

-- The inventory has the fault: there is no plan of it, or this will or this order makes the log of its plan refused.
abbrev pub IsRefusedFrom : List Holding → ℕ → ℕ → List Part → GroupOrder → RecoveryFault → Type 0
IsRefusedFrom inventory least master will order (fault.Plan loss) =
    IsPlanFault inventory least master loss × NamesLoss inventory least master loss
IsRefusedFrom inventory least master will order (fault.Replay refused) = (plan : Plan)
    × IsPlan inventory least master plan
    × IsRebuildFault plan.segments will (order_for plan will order) refused
