use Rattle.log_memory.proofs.NewMaster.{fresh_is_intact}
use Rattle.log_memory.proofs.laws.fresh_is_intact.Goals as goal

pub returns : goal.returns
returns c = fresh_is_intact
