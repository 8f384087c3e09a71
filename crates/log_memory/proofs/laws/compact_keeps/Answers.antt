use Rattle.log_memory.proofs.Compacting.{compact_keeps}
use Rattle.log_memory.proofs.laws.compact_keeps.Goals as goal

pub returns : goal.returns
returns c = compact_keeps
