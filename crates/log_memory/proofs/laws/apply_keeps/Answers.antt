use Rattle.log_memory.proofs.Applying.{apply_keeps}
use Rattle.log_memory.proofs.laws.apply_keeps.Goals as goal

pub returns : goal.returns
returns c = apply_keeps
