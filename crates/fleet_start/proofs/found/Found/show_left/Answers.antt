use Rattle.fleet_start.proofs.Left.{finds_what_is_left}
use Rattle.fleet_start.proofs.found.Found.show_left.Goals as goal

pub returns : goal.returns
returns g c = finds_what_is_left (g.R.FleetRegistry.noted c.args.self.now.registry) c.args.self.now.places.items
