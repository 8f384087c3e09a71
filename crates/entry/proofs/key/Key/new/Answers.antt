use Rattle.std.proofs.Common.{refl, arith}
use Rattle.entry.proofs.key.Key.new.Goals as goal

pub returns-clause-ok : goal.returns-clause-ok
returns-clause-ok c = (refl, c.in_ok-bytes.ensures.copy)

pub from_slice-requires-clause-limit : goal.from_slice-requires-clause-limit
from_slice-requires-clause-limit c = omega arith
