-- The orders in which the groups of a log are replayed.
use Rattle.std.specs.Prelude.{ℕ, List, reverse}
use Rattle.std.specs.List.{range_with_len}
use Rattle.tablet_will.specs.declared.part.Part.{Part}
use Rattle.recovery_plan.specs.declared.chosen.Plan.{Plan}
use Rattle.rebuilding.specs.declared.order.GroupOrder.{GroupOrder}
use Rattle.rebuilding.specs.declared.order.GroupOrder.TheVariants.{Forward, Reverse, Given}
use Rattle.rebuilding.specs.Rebuilds.{count_of}

-- the numbers of `count` groups, in the order
abbrev pub order_of : GroupOrder → ℕ → List ℕ
order_of Forward count = range_with_len 0 count
order_of Reverse count = reverse (range_with_len 0 count)
order_of (Given numbers) count = numbers

-- the order in which the groups of a plan are replayed
abbrev pub order_for : Plan → List Part → GroupOrder → List ℕ
order_for plan will order = order_of order (count_of plan.segments will)
