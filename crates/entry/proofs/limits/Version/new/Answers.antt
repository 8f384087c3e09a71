use Rattle.std.proofs.Common.{refl, arith}
use Rattle.entry.proofs.limits.Version.new.Goals as goal

pub returns-clause-valid : goal.returns-clause-valid
returns-clause-valid c = ((λ is. record { least = omega arith; greatest = omega arith }), (λ valid. refl))
