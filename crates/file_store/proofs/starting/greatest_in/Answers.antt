use Rattle.std.proofs.Common.{refl}
use Rattle.file_store.proofs.starting.greatest_in.Goals as goal

pub loop-holding-init : goal.loop-holding-init
loop-holding-init c = refl
