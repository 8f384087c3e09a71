use Rattle.disk_store.proofs.Openings.{lost, opened}
use Rattle.disk_store.proofs.opening.go_on.Goals as goal

pub returns-in-Ok-clause-opened : goal.returns-in-Ok-clause-opened
returns-in-Ok-clause-opened c =
    opened c.args.options.now c.args.found.registry c.args.found.places.items c.in-Ok.table c.begin_counted.result
    c.requires
    c.in-Ok.ensures.table c.begin_counted.ensures.begun c.begin_counted.ensures.count

pub returns-in-Err-clause-refused : goal.returns-in-Err-clause-refused
returns-in-Err-clause-refused c =
    lost c.args.options.now c.args.found.registry c.args.found.places.items c.in-Err.refused c.requires
    c.in-Err.ensures.none
