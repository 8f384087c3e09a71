use Rattle.master_failover.proofs.LeftSteps.{mend_lowers, turn_lowers}
use Rattle.master_failover.proofs.laws.pushes_lower.Goals as goal

pub returns : goal.returns
returns c = record { mends = mend_lowers; turns = turn_lowers }
