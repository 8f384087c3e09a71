use Rattle.fleet_start.specs.Options.{AreMet}
use Rattle.fleet_start.proofs.options.first_other.Given as goal

abbrev pub invariant-loop-i : goal.invariant-loop-i
invariant-loop-i l = AreMet l.i l.kept l.asked
