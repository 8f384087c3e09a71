use Rattle.file_fleet.specs.Fleet.{FleetValue}
use Rattle.file_fleet.specs.Members.{replicas_at}
use Rattle.file_fleet.proofs.Kept.{for_ok}
use Rattle.file_fleet.proofs.States.{between_loss, lost_state}
use Rattle.file_fleet.proofs.fleet.FileFleet.lose.Goals as goal

pub returns-clause-lost : goal.returns-clause-lost
returns-clause-lost g c =
    let v : FleetValue g.row.D.Denot g.row.R.Denot =
    record {
      members = c.self.inside.members;
      takes = c.self.inside.takes;
      end = c.self.inside.end;
      faults = c.self.inside.faults;
      acks = c.self.inside.acks.list;
    } in
    rw (← c.self.view_is) (for_ok c.put.result _ _ (λ put. lost_state g.R.FleetRegistry.noted v c.put.new.self
    c.args.backup (replicas_at c.args.next) c.requires.fresh.nothing c.put.ensures.count put c.put.ensures.least)
    c.put.ensures.put)

pub returns-clause-any_moment : goal.returns-clause-any_moment
returns-clause-any_moment g c =
    let v : FleetValue g.row.D.Denot g.row.R.Denot =
    record {
      members = c.self.inside.members;
      takes = c.self.inside.takes;
      end = c.self.inside.end;
      faults = c.self.inside.faults;
      acks = c.self.inside.acks.list;
    } in
    rw (← c.self.view_is) (λ goes_on files left. between_loss g.R.FleetRegistry.noted v c.args.backup
    (replicas_at c.args.next) files c.requires.fresh.nothing (c.put.ensures.any_moment goes_on files left))
