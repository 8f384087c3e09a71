use Rattle.std.proofs.Common.{refl}
use Rattle.embedded.proofs.store.Store.recover.Goals as goal

pub returns-in-Err : goal.returns-in-Err
returns-in-Err c = (c.in-Err.ensures, refl)

pub returns : goal.returns
returns c = (c.recover.new.self, c.in-Ok.ensures, c.retire.ensures)
