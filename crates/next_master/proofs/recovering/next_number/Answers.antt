use Rattle.std.proofs.Common.{refl}
use Rattle.next_master.proofs.recovering.next_number.Goals as goal

pub loop-holding-init : goal.loop-holding-init
loop-holding-init c = refl
