use Rattle.std.proofs.Common.{ℕ, ◌∙◌, ap}
use Rattle.file_fleet.specs.Files.{with_file}
use Rattle.fleet_start.proofs.Places.{found_put, found_still}
use Rattle.fleet_start.proofs.found.Found.put.Goals as goal

pub returns-in-Ok-clause-found : goal.returns-in-Ok-clause-found
returns-in-Ok-clause-found g c =
    rw c.set_place.ensures (found_put g.D.Device.contents g.D.Device.may_leave g.D.Device.has_failed
    g.R.FleetRegistry.noted g.R.FleetRegistry.is_sound c.args.self.now.places.items c.args.self.now.registry
    c.name_file.new.self c.args.backup c.args.fresh c.requires.found c.requires.within c.in-Ok.ensures.sound
    (c.in-Ok.ensures.named
    ∙ ap (λ (i : ℕ). with_file (g.R.FleetRegistry.noted c.args.self.now.registry) c.args.backup i) c.id.ensures)
    c.requires.fresh)

pub returns-in-Err-clause-refused : goal.returns-in-Err-clause-refused
returns-in-Err-clause-refused g c is =
    found_still g.D.Device.contents g.D.Device.may_leave g.D.Device.has_failed g.R.FleetRegistry.noted
    g.R.FleetRegistry.is_sound c.args.self.now.places.items c.args.self.now.registry c.name_file.new.self
    c.requires.found (c.in-Err.ensures.memory is) c.in-Err.ensures.refused
