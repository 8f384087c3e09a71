use Rattle.std.proofs.Common.{◌≡◌, ◌-◌, ◌≤◌, ◌<◌, ◌*◌, length, drop}
use Rattle.tablet_will.specs.Rule.{groups, joined}
use Rattle.tablet_will.proofs.Grouping.{at_place}
use Rattle.tablet_will.proofs.group.first_group.Given as goal

abbrev pub decreases-loop-objects : goal.decreases-loop-objects
decreases-loop-objects l = length l.sizes - l.objects

abbrev pub invariant-loop-objects : goal.invariant-loop-objects
invariant-loop-objects l = (0 < l.objects) × (l.objects ≤ length l.sizes)
    × (l.bytes ≤ 18446744073709551615 * l.objects)
    × (groups l.sizes ≡ joined (at_place l.first l.bytes l.objects) (groups (drop l.objects l.sizes)))
