use Rattle.versioned_map.proofs.Represented.{units_added}
use Rattle.versioned_map.proofs.laws.run_represented.Goals as goal

pub returns : goal.returns
returns c = units_added
