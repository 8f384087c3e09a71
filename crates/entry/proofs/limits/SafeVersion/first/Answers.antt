use Rattle.std.proofs.Common.{refl}
use Rattle.entry.proofs.limits.SafeVersion.first.Goals as goal

pub returns : goal.returns
returns c = refl
