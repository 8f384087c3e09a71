use Rattle.log_bytes.proofs.Held.{units_are_held}
use Rattle.log_bytes.proofs.laws.bytes_held.Goals as goal

pub returns : goal.returns
returns c = units_are_held
