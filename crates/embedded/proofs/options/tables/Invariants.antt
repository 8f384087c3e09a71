use Rattle.std.proofs.Common.{◌≡◌}
use Rattle.embedded.specs.Options.{tables_to}
use Rattle.embedded.proofs.options.tables.Given as goal

abbrev pub invariant-loop-before : goal.invariant-loop-before
invariant-loop-before l = l.tablets.items ≡ tables_to l.before
