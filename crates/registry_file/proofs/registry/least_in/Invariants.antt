use Rattle.std.specs.Prelude.{◌≡◌, drop, max}
use Rattle.registry_file.specs.Kept.{least_in}
use Rattle.registry_file.proofs.registry.least_in.Given as goal

abbrev pub invariant-loop-i : goal.invariant-loop-i
invariant-loop-i l = max l.least (least_in (drop l.i l.leasts) l.fn.master) ≡ least_in l.leasts l.fn.master
