use Rattle.std.proofs.Common.{refl}
use Rattle.entry.proofs.key.Key.view.Goals as goal

pub returns : goal.returns
returns c = rw c.as_slice.ensures.bytes refl
