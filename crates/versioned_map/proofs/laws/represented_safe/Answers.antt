use Rattle.versioned_map.proofs.Versions.{safe_after}
use Rattle.versioned_map.proofs.laws.represented_safe.Goals as goal

pub returns : goal.returns
returns c = safe_after
