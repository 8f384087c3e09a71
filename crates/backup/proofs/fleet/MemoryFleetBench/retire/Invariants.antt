use Rattle.std.proofs.Common.{◌≡◌, length}
use Rattle.replica.specs.Retire.{FreesEach}
use Rattle.backup.specs.Faults.{after_takes}
use Rattle.backup.specs.State.{fleet_state}
use Rattle.backup.proofs.fleet.MemoryFleetBench.retire.Given as goal

abbrev pub invariant-loop-spot : goal.invariant-loop-spot
invariant-loop-spot l = record {
  freed : FreesEach (fleet_state l.initial.self) l.yielded (fleet_state l.self);
  asked : l.self.asked ≡ after_takes (length l.yielded) l.initial.self.asked;
}
