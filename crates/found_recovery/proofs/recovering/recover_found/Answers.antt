use Rattle.std.proofs.Common.{◌≡◌, ℕ, ◌∙◌, ap}
use Rattle.found_recovery.proofs.Joining.{headed, headline_of_memory, loss_of_memory, lost_all, recovered_all}
use Rattle.found_recovery.proofs.recovering.recover_found.Goals as goal

pub returns-in-Err-clause-refused : goal.returns-in-Err-clause-refused
returns-in-Err-clause-refused g c =
    loss_of_memory (g.R.FleetRegistry.noted c.args.found.now.registry) c.args.found.now.places.items c.args.master
    c.show_left.ensures c.args.will.now c.args.order.now

pub returns-in-Err-clause-headline : goal.returns-in-Err-clause-headline
returns-in-Err-clause-headline g c =
    headline_of_memory (g.R.FleetRegistry.noted c.args.found.now.registry) c.args.found.now.places.items c.args.master
    c.show_left.ensures c.args.will.now c.args.order.now

pub returns-clause-recovered : goal.returns-clause-recovered
returns-clause-recovered g c =
    recovered_all (g.R.FleetRegistry.noted c.args.found.now.registry) c.args.found.now.places.items c.args.master
    c.show_left.ensures c.in-Ok.inventory c.in-Ok.ensures.shown c.least.result
    (c.least.ensures
    ∙ ap (λ (r : g.row.R.Denot). (g.R.FleetRegistry.noted r).least c.args.master) c.registry.ensures)
    c.recover.result c.recover.ensures.ok

pub returns-clause-refused : goal.returns-clause-refused
returns-clause-refused g c =
    lost_all (g.R.FleetRegistry.noted c.args.found.now.registry) c.args.found.now.places.items c.args.master
    c.show_left.ensures c.in-Ok.inventory c.in-Ok.ensures.shown c.least.result
    (c.least.ensures
    ∙ ap (λ (r : g.row.R.Denot). (g.R.FleetRegistry.noted r).least c.args.master) c.registry.ensures)
    c.args.will.now c.args.order.now c.recover.result c.recover.ensures.refused

pub returns-clause-headline : goal.returns-clause-headline
returns-clause-headline g c =
    headed (g.R.FleetRegistry.noted c.args.found.now.registry) c.args.found.now.places.items c.args.master
    c.show_left.ensures c.in-Ok.inventory c.in-Ok.ensures.shown c.least.result
    (c.least.ensures
    ∙ ap (λ (r : g.row.R.Denot). (g.R.FleetRegistry.noted r).least c.args.master) c.registry.ensures)
    c.args.will.now c.args.order.now c.recover.result c.recover.ensures.ok c.recover.ensures.refused
