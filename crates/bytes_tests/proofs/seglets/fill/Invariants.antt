use Rattle.images.specs.Sorted.{IsWhole}
use Rattle.bytes_tests.proofs.seglets.fill.Given as goal

abbrev pub invariant-loop-appended : goal.invariant-loop-appended
invariant-loop-appended l = IsWhole l.images.images l.id
