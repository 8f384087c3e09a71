use Rattle.std.proofs.Common.{refl}
use Rattle.entry.proofs.view.KeyRef.to_key.Goals as goal

pub returns : goal.returns
returns c = rw c.in_ok-bytes.ensures.copy refl
