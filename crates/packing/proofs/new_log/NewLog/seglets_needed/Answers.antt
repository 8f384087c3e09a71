use Rattle.std.proofs.Common.{refl}
use Rattle.packing.proofs.new_log.NewLog.seglets_needed.Goals as goal

pub returns : goal.returns
returns c = refl
