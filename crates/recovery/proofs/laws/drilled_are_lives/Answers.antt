use Rattle.recovery.proofs.Succeeding.{drilled_are_lives}
use Rattle.recovery.proofs.laws.drilled_are_lives.Goals as goal

pub returns : goal.returns
returns c = drilled_are_lives
