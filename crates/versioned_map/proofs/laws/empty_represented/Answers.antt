use Rattle.versioned_map.proofs.Represented.{nothing_yet}
use Rattle.versioned_map.proofs.laws.empty_represented.Goals as goal

pub returns : goal.returns
returns c = nothing_yet
