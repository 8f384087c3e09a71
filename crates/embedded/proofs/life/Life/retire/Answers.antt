use Rattle.std.proofs.Common.{refl}
use Rattle.embedded.proofs.Living.{cut_frees}
use Rattle.embedded.proofs.life.Life.retire.Goals as goal

pub returns-in-Ok : goal.returns-in-Ok
returns-in-Ok c = rw c.in-Up.is (c.retire.new.self, refl, c.in-Ok.ensures.knows, c.in-Ok.ensures.valid)

pub returns-in-Err : goal.returns-in-Err
returns-in-Err c =
    rw c.in-Up.is (
      c.retire.new.self,
      refl,
      cut_frees c.in-Err.field-0 c.in-Up.master.knows c.retire.new.self.knows c.in-Err.ensures.knows,
      c.in-Err.ensures.valid,
    )
