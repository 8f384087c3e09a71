use Rattle.std.proofs.Common.{◌≡◌, map, Some, false}
use Rattle.file_fleet.specs.Members.{AreSafe}
use Rattle.fleet_start.proofs.found.Found.into_members.Given as goal

abbrev pub invariant-loop-place : goal.invariant-loop-place
invariant-loop-place g l = record {
  safe : AreSafe g.D.Device.contents g.D.Device.may_leave g.D.Device.has_failed g.R.FleetRegistry.noted
      g.R.FleetRegistry.is_sound l.members;
  items : map Some l.members.list.items ≡ l.yielded;
  registry : l.members.registry ≡ l.fn.self.registry;
  goes_on : l.members.is_halted ≡ false;
}
