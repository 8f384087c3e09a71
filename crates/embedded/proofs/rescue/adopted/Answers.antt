use Rattle.std.proofs.Common.{refl}
use Rattle.embedded.proofs.rescue.adopted.Goals as goal

pub adopt_list-requires-clause-config : goal.adopt_list-requires-clause-config
adopt_list-requires-clause-config c = c.requires.fit.checked

pub adopt_list-requires-clause-backups : goal.adopt_list-requires-clause-backups
adopt_list-requires-clause-backups c = c.requires.fit.place.1

pub adopt_list-requires-clause-none : goal.adopt_list-requires-clause-none
adopt_list-requires-clause-none c = c.requires.none

pub adopt_list-requires-clause-least : goal.adopt_list-requires-clause-least
adopt_list-requires-clause-least c = c.requires.fit.place.0

pub returns-in-Ok : goal.returns-in-Ok
returns-in-Ok c = (c.in-Ok.master, refl, c.in-Ok.ensures.adopted, c.in-Ok.ensures.valid)

pub returns-in-Err : goal.returns-in-Err
returns-in-Err c = (c.in-Err.left, refl, c.in-Err.ensures.left)
