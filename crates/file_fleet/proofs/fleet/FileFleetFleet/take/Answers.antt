use Rattle.std.proofs.Common.{◌<◌, inl, refl, rules}
use Rattle.replica.specs.Op.{shown_op}
use Rattle.file_fleet.specs.Fleet.{FleetValue}
use Rattle.file_fleet.proofs.Kept.{still_shown}
use Rattle.file_fleet.proofs.States.{between_take, taken_unanswered}
use Rattle.file_fleet.proofs.fleet.FileFleetFleet.take.Goals as goal

pub returns-then-self-clause-any_moment : goal.returns-then-self-clause-any_moment
returns-then-self-clause-any_moment g c =
    rw (← c.self.view_is) (λ goes_on files amid. inl (still_shown g.D.Device.contents g.D.Device.may_leave
    g.D.Device.has_failed g.R.FleetRegistry.noted g.R.FleetRegistry.is_sound g.D.Device.clock g.D.Device.left_since
    g.met.D.Device.just_now g.R.FleetRegistry.time g.R.FleetRegistry.left_of g.R.FleetRegistry.leaves
    g.met.R.FleetRegistry.just_now g.met.R.FleetRegistry.just_kept c.self.inside.members c.self.inside.members
    (c.self.invariant.1 goes_on) refl refl files amid))

pub returns-in-Yes-clause-any_moment : goal.returns-in-Yes-clause-any_moment
returns-in-Yes-clause-any_moment g c =
    rw (← c.self.view_is) (λ goes_on files amid. inl (still_shown g.D.Device.contents g.D.Device.may_leave
    g.D.Device.has_failed g.R.FleetRegistry.noted g.R.FleetRegistry.is_sound g.D.Device.clock g.D.Device.left_since
    g.met.D.Device.just_now g.R.FleetRegistry.time g.R.FleetRegistry.left_of g.R.FleetRegistry.leaves
    g.met.R.FleetRegistry.just_now g.met.R.FleetRegistry.just_kept c.self.inside.members c.self.inside.members
    (c.self.invariant.1 goes_on) refl refl files amid))

pub returns-in-Unknown-clause-any_moment : goal.returns-in-Unknown-clause-any_moment
returns-in-Unknown-clause-any_moment g c =
    rw (← c.self.view_is) (λ goes_on files amid. inl (still_shown g.D.Device.contents g.D.Device.may_leave
    g.D.Device.has_failed g.R.FleetRegistry.noted g.R.FleetRegistry.is_sound g.D.Device.clock g.D.Device.left_since
    g.met.D.Device.just_now g.R.FleetRegistry.time g.R.FleetRegistry.left_of g.R.FleetRegistry.leaves
    g.met.R.FleetRegistry.just_now g.met.R.FleetRegistry.just_kept c.self.inside.members c.self.inside.members
    (c.self.invariant.1 goes_on) refl refl files amid))

pub returns-then-ends_in_fault-clause-gives : goal.returns-then-ends_in_fault-clause-gives
returns-then-ends_in_fault-clause-gives g c =
    let left : c.self.inside.takes < c.self.inside.end = search rules in
    let v : FleetValue g.row.D.Denot g.row.R.Denot =
    record {
      members = c.self.inside.members;
      takes = c.self.inside.takes;
      end = c.self.inside.end;
      faults = c.self.inside.faults;
      acks = c.self.inside.acks.list;
    } in
    rw (← c.self.view_is) (taken_unanswered g.R.FleetRegistry.noted v c.take.new.self c.args.backup
    (shown_op c.args.op.now) c.ends_in_fault.new.faults left c.in-Ok.ensures.taken c.take.ensures.count
    c.take.ensures.least
    (c.ends_in_fault.ensures.counted c.if-ends_in_fault.true))

pub returns-then-ends_in_fault-clause-out : goal.returns-then-ends_in_fault-clause-out
returns-then-ends_in_fault-clause-out g c =
    rw (← c.self.view_is) (λ out. let bad = (c.in-Ok.ensures.out out).0 in absurd (cc))

pub returns-then-ends_in_fault-clause-any_moment : goal.returns-then-ends_in_fault-clause-any_moment
returns-then-ends_in_fault-clause-any_moment g c =
    let left : c.self.inside.takes < c.self.inside.end = search rules in
    let v : FleetValue g.row.D.Denot g.row.R.Denot =
    record {
      members = c.self.inside.members;
      takes = c.self.inside.takes;
      end = c.self.inside.end;
      faults = c.self.inside.faults;
      acks = c.self.inside.acks.list;
    } in
    rw (← c.self.view_is) (λ goes_on files amid. between_take g.R.FleetRegistry.noted v c.args.backup
    (shown_op c.args.op.now) files left (c.take.ensures.any_moment goes_on files amid))

pub returns-else-ends_in_fault-clause-out : goal.returns-else-ends_in_fault-clause-out
returns-else-ends_in_fault-clause-out g c =
    rw (← c.self.view_is) (λ out. let bad = (c.in-Ok.ensures.out out).0 in absurd (cc))

pub returns-else-ends_in_fault-clause-any_moment : goal.returns-else-ends_in_fault-clause-any_moment
returns-else-ends_in_fault-clause-any_moment g c =
    let left : c.self.inside.takes < c.self.inside.end = search rules in
    let v : FleetValue g.row.D.Denot g.row.R.Denot =
    record {
      members = c.self.inside.members;
      takes = c.self.inside.takes;
      end = c.self.inside.end;
      faults = c.self.inside.faults;
      acks = c.self.inside.acks.list;
    } in
    rw (← c.self.view_is) (λ goes_on files amid. between_take g.R.FleetRegistry.noted v c.args.backup
    (shown_op c.args.op.now) files left (c.take.ensures.any_moment goes_on files amid))

pub returns-in-Err-Fault-clause-out : goal.returns-in-Err-Fault-clause-out
returns-in-Err-Fault-clause-out g c = rw (← c.self.view_is) (λ out. (refl, (c.take.ensures.out out).1))

pub returns-in-Err-Fault-clause-any_moment : goal.returns-in-Err-Fault-clause-any_moment
returns-in-Err-Fault-clause-any_moment g c =
    let left : c.self.inside.takes < c.self.inside.end = search rules in
    let v : FleetValue g.row.D.Denot g.row.R.Denot =
    record {
      members = c.self.inside.members;
      takes = c.self.inside.takes;
      end = c.self.inside.end;
      faults = c.self.inside.faults;
      acks = c.self.inside.acks.list;
    } in
    rw (← c.self.view_is) (λ goes_on files amid. between_take g.R.FleetRegistry.noted v c.args.backup
    (shown_op c.args.op.now) files left (c.take.ensures.any_moment goes_on files amid))

pub returns-in-Err-Wrong-clause-out : goal.returns-in-Err-Wrong-clause-out
returns-in-Err-Wrong-clause-out g c = rw (← c.self.view_is) (λ out. (refl, (c.take.ensures.out out).1))

pub returns-in-Err-clause-out : goal.returns-in-Err-clause-out
returns-in-Err-clause-out g c = rw (← c.self.view_is) (λ out. (refl, (c.take.ensures.out out).1))

pub returns-in-Err-clause-any_moment : goal.returns-in-Err-clause-any_moment
returns-in-Err-clause-any_moment g c =
    let left : c.self.inside.takes < c.self.inside.end = search rules in
    let v : FleetValue g.row.D.Denot g.row.R.Denot =
    record {
      members = c.self.inside.members;
      takes = c.self.inside.takes;
      end = c.self.inside.end;
      faults = c.self.inside.faults;
      acks = c.self.inside.acks.list;
    } in
    rw (← c.self.view_is) (λ goes_on files amid. between_take g.R.FleetRegistry.noted v c.args.backup
    (shown_op c.args.op.now) files left (c.take.ensures.any_moment goes_on files amid))
