use Rattle.versioned_map.proofs.Units.{units_data}
use Rattle.versioned_map.proofs.laws.units_are_data.Goals as goal

pub returns : goal.returns
returns c = units_data
