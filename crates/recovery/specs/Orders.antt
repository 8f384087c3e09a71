-- What a recovery asks of its will and its order.
use Rattle.std.specs.Prelude.{◌≡◌, ℕ, List, is_some, true}
use Rattle.entry.specs.declared.tablet.Tablet.{Tablet}
use Rattle.replica.specs.declared.holding.Holding.{Holding}
use Rattle.replica.specs.Picture.{Shown, AreHeld}
use Rattle.tablet_will.specs.declared.part.Part.{Part}
use Rattle.tablet_will.specs.Parts.{partition_at, is_in_one}
use Rattle.recovery_plan.specs.declared.chosen.Plan.{Plan}
use Rattle.recovery_plan.specs.Planned.{IsPlan}
use Rattle.rebuilding.specs.Rebuilds.{count_of, IsOrderOf}
use Rattle.rebuilding.specs.declared.order.GroupOrder.{GroupOrder}
use Rattle.rebuilding.specs.declared.order.GroupOrder.TheVariants.{Forward, Reverse}
use Rattle.rebuilding.specs.Orders.{order_for}

-- ---- orders

-- The order names each group of each plan of the inventory once.
abbrev pub NamesGroups : List Holding → ℕ → ℕ → List Part → GroupOrder → Type 0
NamesGroups inventory least master will order = (plan : Plan) → IsPlan inventory least master plan
    → IsOrderOf (count_of plan.segments will) (order_for plan will order)

-- for each inventory that lists just what is shown, the order names each group of each plan once
abbrev pub NamesHeld : Shown → ℕ → List Part → GroupOrder → Type 0
NamesHeld shown master will order =
    (inventory : List Holding) → AreHeld inventory shown.holds → NamesGroups inventory shown.least master will order

-- ---- wills

-- each place of the tablets has a partition in the will
abbrev pub Covers : List Tablet → List Part → Type 0
Covers ts qs = (table place : ℕ) → is_in_one ts table place ≡ true → is_some (partition_at qs table place) ≡ true

-- ---- a law

-- Forward and Reverse name each group of any plan once.
abbrev pub OrdersNameGroups : Type 0
OrdersNameGroups = (inventory : List Holding) (least master : ℕ) (will : List Part)
    → NamesGroups inventory least master will Forward × NamesGroups inventory least master will Reverse
