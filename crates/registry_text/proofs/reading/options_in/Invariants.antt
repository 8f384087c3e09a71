use Rattle.std.specs.Prelude.{◌≡◌, ◌+◌, ◌*◌, ◌-◌, ◌++◌}
use Rattle.entry.specs.Format.{ids_at}
use Rattle.registry_text.proofs.reading.options_in.Given as goal

abbrev pub invariant-loop-i : goal.invariant-loop-i
invariant-loop-i l =
    l.options.items ++ ids_at (l.fn.count - l.i) (10 + 8 * l.i) l.rest ≡ ids_at l.fn.count 10 l.rest
