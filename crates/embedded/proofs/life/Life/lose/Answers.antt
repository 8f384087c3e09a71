use Rattle.std.proofs.Common.{refl}
use Rattle.embedded.proofs.life.Life.lose.Goals as goal

pub returns-in-Down : goal.returns-in-Down
returns-in-Down c = rw c.in-Down.is (refl, (c.lose.new.self, refl, c.lose.ensures.lost))
