use Rattle.versioned_map.proofs.Versions.{bounded}
use Rattle.versioned_map.proofs.laws.versions_bounded.Goals as goal

pub returns : goal.returns
returns c = bounded
