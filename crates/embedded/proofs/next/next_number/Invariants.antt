use Rattle.std.proofs.Common.{◌≡◌, max, drop}
use Rattle.embedded.specs.Next.{greatest_of}
use Rattle.embedded.proofs.next.next_number.Given as goal

abbrev pub invariant-loop-holding : goal.invariant-loop-holding
invariant-loop-holding l =
    max l.greatest (greatest_of (drop l.holding-index l.inventory)) ≡ max l.fn.used (greatest_of l.inventory)
