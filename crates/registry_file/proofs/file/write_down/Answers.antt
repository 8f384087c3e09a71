use Rattle.std.proofs.Common.{◌≡◌}
use Rattle.registry_file.specs.declared.file.Written.TheVariants as written
use Rattle.registry_file.proofs.file.write_down.Goals as goal

-- an append that failed isn't done
not_done : written.Unknown ≡ written.Done → ⊥
not_done is = cc

pub returns-in-Err-Failed-clause-done : goal.returns-in-Err-Failed-clause-done
returns-in-Err-Failed-clause-done g c is = absurd (not_done is)
