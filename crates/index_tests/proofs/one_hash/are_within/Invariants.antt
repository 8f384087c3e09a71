use Rattle.std.proofs.Common.{drop}
use Rattle.place_index.specs.Runs.{AreWithin}
use Rattle.index_tests.proofs.one_hash.are_within.Given as goal

abbrev pub invariant-loop-call : goal.invariant-loop-call
invariant-loop-call l = AreWithin (drop l.call-index l.fn.calls) → AreWithin l.fn.calls
