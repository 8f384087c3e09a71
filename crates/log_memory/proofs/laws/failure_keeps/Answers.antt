use Rattle.log_memory.proofs.Failing.{fail_keeps, mend_keeps}
use Rattle.log_memory.proofs.laws.failure_keeps.Goals as goal

pub returns : goal.returns
returns c = record { fails = fail_keeps; mends = mend_keeps }
