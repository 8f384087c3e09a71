use Rattle.file_fleet.specs.Fleet.{FleetValue}
use Rattle.file_fleet.proofs.States.{same_state}
use Rattle.file_fleet.proofs.fleet.FileFleet.switch.Goals as goal

pub returns-clause-same : goal.returns-clause-same
returns-clause-same g c =
    let v : FleetValue g.row.D.Denot g.row.R.Denot =
    record {
      members = c.self.inside.members;
      takes = c.self.inside.takes;
      end = c.self.inside.end;
      faults = c.self.inside.faults;
      acks = c.self.inside.acks.list;
    } in
    rw (← c.self.view_is) (same_state g.R.FleetRegistry.noted v c.switch.new.self c.switch.ensures.count
    c.switch.ensures.same c.switch.ensures.least)
