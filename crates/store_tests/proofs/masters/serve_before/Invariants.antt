use Rattle.std.proofs.Common.{◌≡◌}
use Rattle.store_tests.proofs.masters.serve_before.Given as goal

abbrev pub invariant-loop : goal.invariant-loop
invariant-loop g l = l.master.knows.config ≡ l.fn.master.knows.config
