use Rattle.std.proofs.Common.{refl}
use Rattle.embedded.proofs.store.Store.serve.Goals as goal

pub returns-clause-serves : goal.returns-clause-serves
returns-clause-serves c =
    rw c.in-Up.is (c.carry_out.new.master, refl, c.carry_out.ensures.means, c.carry_out.ensures.valid)
