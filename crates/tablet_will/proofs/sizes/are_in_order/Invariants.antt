use Rattle.std.proofs.Common.{◌≡◌, ◌-◌, drop}
use Rattle.tablet_will.specs.Sizes.{are_in_order}
use Rattle.tablet_will.proofs.sizes.are_in_order.Given as goal

abbrev pub invariant-loop-i : goal.invariant-loop-i
invariant-loop-i l = are_in_order (drop (l.i - 1) l.sizes) ≡ are_in_order l.sizes
