use Rattle.std.specs.Prelude.{◌≡◌, ◌++◌, take}
use Rattle.std.specs.List.{flat_map}
use Rattle.entry.specs.Format.{number_bytes}
use Rattle.registry_text.proofs.writing.write_fleet.Given as goal

abbrev pub invariant-loop-option : goal.invariant-loop-option
invariant-loop-option l =
    l.out.items ≡ l.initial.out.items ++ flat_map (number_bytes 8) (take l.option-index l.options)
