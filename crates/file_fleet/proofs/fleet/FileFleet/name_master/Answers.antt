use Rattle.std.proofs.Common.{Global, Vec, ap, length}
use Rattle.file_fleet.specs.Fleet.{FleetValue}
use Rattle.file_fleet.specs.Members.{picture_of}
use Rattle.file_fleet.specs.declared.member.Member.{Member}
use Rattle.file_fleet.proofs.States.{same_state}
use Rattle.file_fleet.proofs.fleet.FileFleet.name_master.Goals as goal

pub returns-clause-same : goal.returns-clause-same
returns-clause-same g c =
    let v : FleetValue g.row.D.Denot g.row.R.Denot =
    record {
      members = c.self.inside.members;
      takes = c.self.inside.takes;
      end = c.self.inside.end;
      faults = c.self.inside.faults;
      acks = c.self.inside.acks.list;
    } in
    let same = c.name_master.ensures.same in
    rw (← c.self.view_is) (same_state g.R.FleetRegistry.noted v c.name_master.new.self
    (ap (λ (l : Vec (Member g.row.D.Denot) Global). length l.items) same)
    (ap (λ (l : Vec (Member g.row.D.Denot) Global). picture_of l.items) same)
    c.name_master.ensures.least)
