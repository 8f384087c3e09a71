use Rattle.std.proofs.Common.{◌≡◌}
use Rattle.asked_again.proofs.succession.retire.Given as goal

abbrev pub invariant-loop : goal.invariant-loop
invariant-loop g l =
    (goal.iterator-loop g).can_next l.iterator' × (goal.iterator-loop g).is_finite l.iterator'
    × l.master.knows ≡ l.fn.master.knows
