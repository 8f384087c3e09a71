use Rattle.recovery.proofs.Lives.{versions_rise}
use Rattle.recovery.proofs.laws.versions_rise.Goals as goal

pub returns : goal.returns
returns c = versions_rise
