use Rattle.log_memory.proofs.Copying.{copy_keeps}
use Rattle.log_memory.proofs.laws.copy_keeps.Goals as goal

pub returns : goal.returns
returns c = copy_keeps
