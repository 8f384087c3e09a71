use Rattle.log_memory.proofs.Coverage.{intact_is_covered}
use Rattle.log_memory.proofs.laws.what_intact_says.Goals as goal

pub returns : goal.returns
returns c = intact_is_covered
