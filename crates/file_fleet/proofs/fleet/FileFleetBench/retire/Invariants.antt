use Rattle.replica.specs.Retire.{FreesEach}
use Rattle.file_fleet.specs.Fleet.{fleet_state}
use Rattle.file_fleet.proofs.fleet.FileFleetBench.retire.Given as goal

abbrev pub invariant-loop-spot : goal.invariant-loop-spot
invariant-loop-spot g l =
    FreesEach (fleet_state g.R.FleetRegistry.noted l.initial.self) l.yielded
    (fleet_state g.R.FleetRegistry.noted l.self)
