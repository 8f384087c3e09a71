use Rattle.log_memory.proofs.Freeing.{free_keeps}
use Rattle.log_memory.proofs.laws.free_keeps.Goals as goal

pub returns : goal.returns
returns c = free_keeps
