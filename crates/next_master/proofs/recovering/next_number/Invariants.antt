use Rattle.std.proofs.Common.{◌≡◌, max, drop}
use Rattle.next_master.specs.Numbers.{greatest_of}
use Rattle.next_master.proofs.recovering.next_number.Given as goal

abbrev pub invariant-loop-holding : goal.invariant-loop-holding
invariant-loop-holding l =
    max l.greatest (greatest_of (drop l.holding-index l.inventory)) ≡ max l.fn.master (greatest_of l.inventory)
