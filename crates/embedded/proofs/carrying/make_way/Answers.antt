use Rattle.std.proofs.Common.{[]}
use Rattle.embedded.proofs.Going.{lives_same}
use Rattle.embedded.proofs.carrying.make_way.Goals as goal

pub returns-in-Err : goal.returns-in-Err
returns-in-Err g c = lives_same _ _ _ [] c.roll_all.ensures.goes_on c.make_room_for.ensures
