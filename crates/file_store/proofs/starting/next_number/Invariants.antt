use Rattle.std.proofs.Common.{◌≤◌}
use Rattle.file_fleet.specs.Fleet.{fleet_state}
use Rattle.file_store.specs.Started.{AreUpTo}
use Rattle.file_store.proofs.starting.next_number.Given as goal

abbrev pub invariant-loop-backup : goal.invariant-loop-backup
invariant-loop-backup g l = (l.used ≤ l.greatest)
    × AreUpTo (fleet_state g.R.FleetRegistry.noted l.fleet).picture l.backup l.greatest
