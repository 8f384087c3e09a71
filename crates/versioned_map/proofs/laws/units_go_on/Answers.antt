use Rattle.versioned_map.proofs.Units.{units_pushed}
use Rattle.versioned_map.proofs.laws.units_go_on.Goals as goal

pub returns : goal.returns
returns c = units_pushed
