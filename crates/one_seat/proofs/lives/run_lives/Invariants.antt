use Rattle.store_lines.specs.Lives.{IsOpening}
use Rattle.one_seat.proofs.lives.run_lives.Given as goal

abbrev pub invariant-loop : goal.invariant-loop
invariant-loop g l =
    (goal.iterator-loop g).can_next l.iterator' × (goal.iterator-loop g).is_finite l.iterator'
    × IsOpening l.fn.options l.master.knows
