use Rattle.std.proofs.Common.{refl}
use Rattle.entry.proofs.row.Row.new.Goals as goal

pub returns : goal.returns
returns g c = refl
