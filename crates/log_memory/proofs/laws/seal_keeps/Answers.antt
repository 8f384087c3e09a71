use Rattle.log_memory.proofs.Sealing.{seal_keeps}
use Rattle.log_memory.proofs.laws.seal_keeps.Goals as goal

pub returns : goal.returns
returns c = seal_keeps
