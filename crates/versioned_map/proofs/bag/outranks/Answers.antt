use Rattle.std.proofs.Common.{rules}
use Rattle.versioned_map.proofs.bag.outranks.Goals as goal

pub returns-then-eq-2 : goal.returns-then-eq-2
returns-then-eq-2 c = search rules
