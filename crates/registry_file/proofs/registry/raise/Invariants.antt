use Rattle.std.specs.Prelude.{◌≡◌}
use Rattle.registry_file.proofs.registry.raise.Given as goal

abbrev pub invariant-loop-i : goal.invariant-loop-i
invariant-loop-i l = l.leasts ≡ l.fn.leasts
