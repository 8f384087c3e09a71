use Rattle.fleet_start.proofs.Places.{missing_more}
use Rattle.fleet_start.proofs.found.Found.add_missing.Goals as goal

pub returns-clause-found : goal.returns-clause-found
returns-clause-found g c =
    rw c.in_ok-push.ensures.items (missing_more g.D.Device.contents g.D.Device.may_leave g.D.Device.has_failed
    g.R.FleetRegistry.noted g.R.FleetRegistry.is_sound c.args.self.now.places.items c.args.self.now.registry
    c.requires.found)
