use Rattle.std.proofs.Common.{refl}
use Rattle.embedded.proofs.next.next_number.Goals as goal

pub loop-holding-init : goal.loop-holding-init
loop-holding-init c = refl
