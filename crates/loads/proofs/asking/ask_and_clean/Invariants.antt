use Rattle.std.proofs.Common.{◌≡◌}
use Rattle.loads.proofs.asking.ask_and_clean.Given as goal

abbrev pub invariant-loop : goal.invariant-loop
invariant-loop g l = l.seat ≡ l.fn.seat
