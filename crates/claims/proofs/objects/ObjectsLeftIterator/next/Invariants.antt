use Rattle.std.proofs.Common.{◌≡◌, length}
use Rattle.claims.specs.Objects.{behind}
use Rattle.claims.proofs.objects.ObjectsLeftIterator.next.Given as goal

abbrev pub invariant-loop-next : goal.invariant-loop-next
invariant-loop-next l =
    behind l.self-inside.part l.self-inside.others.now
    ≡ behind l.initial.self-inside.part l.initial.self-inside.others.now

abbrev pub decreases-loop-next : goal.decreases-loop-next
decreases-loop-next l = length l.self-inside.others.now
