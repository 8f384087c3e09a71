use Rattle.std.proofs.Common.{refl}
use Rattle.entry.proofs.kind.Kind.fixed_len.Goals as goal

pub returns-in-Object : goal.returns-in-Object
returns-in-Object c = rw c.in-Object.is refl
