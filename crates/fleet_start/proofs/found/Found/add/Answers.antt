use Rattle.fleet_start.proofs.Places.{found_more}
use Rattle.fleet_start.proofs.found.Found.add.Goals as goal

pub returns-clause-found : goal.returns-clause-found
returns-clause-found g c =
    rw c.in_ok-push.ensures.items (found_more g.D.Device.contents g.D.Device.may_leave g.D.Device.has_failed
    g.R.FleetRegistry.noted g.R.FleetRegistry.is_sound c.args.self.now.places.items c.args.self.now.registry
    c.args.member c.requires.found c.requires.member c.requires.under c.requires.named)
