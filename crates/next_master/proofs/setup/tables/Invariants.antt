use Rattle.std.proofs.Common.{◌≡◌}
use Rattle.next_master.specs.Configuration.{tables_to}
use Rattle.next_master.proofs.setup.tables.Given as goal

abbrev pub invariant-loop-before : goal.invariant-loop-before
invariant-loop-before l = l.tablets.items ≡ tables_to l.before
