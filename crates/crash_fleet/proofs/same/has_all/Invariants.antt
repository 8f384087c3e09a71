use Rattle.std.proofs.Common.{take}
use Rattle.crash_fleet.specs.Same.{AreAmong}
use Rattle.crash_fleet.proofs.same.has_all.Given as goal

abbrev pub invariant-loop-holding : goal.invariant-loop-holding
invariant-loop-holding l = AreAmong (take l.holding-index l.ones) l.others
