use Rattle.std.specs.Prelude.{◌≡◌, ◌++◌, map, take}
use Rattle.registry_file.specs.Whole.{naming, raising}
use Rattle.registry_file.proofs.whole.records_of.Given as goal

abbrev pub invariant-loop-journal : goal.invariant-loop-journal
invariant-loop-journal l = l.records.items ≡ map naming (take l.journal-index l.registry.journals.items)

abbrev pub invariant-loop-least : goal.invariant-loop-least
invariant-loop-least l =
    l.records.items ≡ map naming l.registry.journals.items ++ map raising (take l.least-index l.registry.leasts.items)
