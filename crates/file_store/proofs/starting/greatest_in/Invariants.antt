use Rattle.std.proofs.Common.{◌≡◌, max, drop}
use Rattle.embedded.specs.Next.{greatest_of}
use Rattle.file_store.proofs.starting.greatest_in.Given as goal

abbrev pub invariant-loop-holding : goal.invariant-loop-holding
invariant-loop-holding l =
    max l.greatest (greatest_of (drop l.holding-index l.holdings)) ≡ max l.fn.from (greatest_of l.holdings)
