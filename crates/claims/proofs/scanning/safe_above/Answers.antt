use Rattle.std.proofs.Common.{refl}
use Rattle.claims.proofs.scanning.safe_above.Goals as goal

pub loop-claim-init : goal.loop-claim-init
loop-claim-init c = refl
