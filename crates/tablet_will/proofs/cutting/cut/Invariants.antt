use Rattle.std.proofs.Common.{◌≡◌, ◌-◌, ◌≤◌, ◌++◌, false, length, drop}
use Rattle.std.specs.List.{AllWithin}
use Rattle.tablet_will.specs.declared.group.Start.{Start}
use Rattle.tablet_will.specs.Order.{is_up_to}
use Rattle.tablet_will.specs.Rule.{cut}
use Rattle.tablet_will.proofs.cutting.cut.Given as goal

abbrev pub decreases-loop-number : goal.decreases-loop-number
decreases-loop-number l = length l.starts - l.number

abbrev pub invariant-loop-number : goal.invariant-loop-number
invariant-loop-number l = (l.number ≤ length l.starts)
    × (l.parts.items ++ cut l.number (record l.tablet { first = l.first }) (drop l.number l.starts)
    ≡ l.fn.parts.items ++ cut 0 l.tablet l.starts)
    × AllWithin (λ (s : Start). is_up_to s.table s.place l.tablet.table l.first ≡ false) l.starts l.number
    (length l.starts)
