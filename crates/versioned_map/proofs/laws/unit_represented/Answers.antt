use Rattle.versioned_map.proofs.Represented.{unit_added}
use Rattle.versioned_map.proofs.laws.unit_represented.Goals as goal

pub returns : goal.returns
returns c = unit_added
