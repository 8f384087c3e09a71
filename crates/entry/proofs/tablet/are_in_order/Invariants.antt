use Rattle.std.proofs.Common.{◌≡◌, ◌-◌, drop}
use Rattle.entry.specs.Tablet.{are_in_order}
use Rattle.entry.proofs.tablet.are_in_order.Given as goal

abbrev pub invariant-loop-i : goal.invariant-loop-i
invariant-loop-i l = are_in_order (drop (l.i - 1) l.tablets) ≡ are_in_order l.tablets
