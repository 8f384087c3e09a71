use Rattle.master.proofs.StuckPushes.{stuck_halts}
use Rattle.master.proofs.laws.stuck_push_halts.Goals as goal

pub returns : goal.returns
returns c = stuck_halts
