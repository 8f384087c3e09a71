use Rattle.embedded.proofs.Surviving.{survives}
use Rattle.embedded.proofs.laws.what_survives.Goals as goal

pub returns : goal.returns
returns c = survives
