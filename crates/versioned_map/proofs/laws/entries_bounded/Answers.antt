use Rattle.versioned_map.proofs.Versions.{entry_bounded}
use Rattle.versioned_map.proofs.laws.entries_bounded.Goals as goal

pub returns : goal.returns
returns c = entry_bounded
