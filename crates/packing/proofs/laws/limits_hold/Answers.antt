use Rattle.packing.proofs.Holding.{within_limit_loads}
use Rattle.packing.proofs.Testing.{tested_limit_loads, less_is_limit}
use Rattle.packing.proofs.laws.limits_hold.Goals as goal

pub returns : goal.returns
returns c = record { limit = within_limit_loads; tested = tested_limit_loads; less = less_is_limit }
