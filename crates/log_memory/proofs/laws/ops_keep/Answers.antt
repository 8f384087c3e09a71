use Rattle.log_memory.proofs.OpsKeep.{op_keeps, op_fits}
use Rattle.log_memory.proofs.laws.ops_keep.Goals as goal

pub returns : goal.returns
returns c = record { keeps = op_keeps; fits = op_fits }
