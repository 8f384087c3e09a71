use Rattle.std.proofs.Common.{◌≡◌, ◌-◌, ◌≤◌, ◌*◌, ◌++◌, length, drop}
use Rattle.tablet_will.specs.Rule.{groups, starts_from, starts_of}
use Rattle.tablet_will.proofs.group.starts_of.Given as goal

abbrev pub decreases-loop-at : goal.decreases-loop-at
decreases-loop-at l = length l.sizes - l.at

abbrev pub invariant-loop-at : goal.invariant-loop-at
invariant-loop-at l = (l.at ≤ length l.sizes) × (l.load.objects ≤ l.at) × (l.load.partition ≤ 4294967294)
    × (l.load.bytes ≤ 18446744073709551615 * l.load.objects)
    × (l.starts.items ++ starts_from l.max_bytes l.max_objects l.load (groups (drop l.at l.sizes))
    ≡ starts_of l.max_bytes l.max_objects l.sizes)
