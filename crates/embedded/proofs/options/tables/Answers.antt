use Rattle.std.proofs.Common.{[], ◌≡◌, ◌+◌, ◌++◌, ◌∷◌, ℕ, add-one, refl}
use Rattle.embedded.specs.Options.{tables_to, whole_table}
use Rattle.embedded.proofs.options.tables.Goals as goal

tables_to-next : (n : ℕ) → tables_to (n + 1) ≡ tables_to n ++ whole_table (n + 1) ∷ []
tables_to-next n = rw add-one refl

pub loop-before-preserved : goal.loop-before-preserved
loop-before-preserved c = rw (tables_to-next, ← c.loop-before.invariant) c.in_ok-push.ensures.items
