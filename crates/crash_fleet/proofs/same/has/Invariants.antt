use Rattle.std.proofs.Common.{take}
use Rattle.entry.specs.Bag.{IsAmong}
use Rattle.crash_fleet.proofs.same.has.Given as goal

abbrev pub invariant-loop-holding : goal.invariant-loop-holding
invariant-loop-holding l = IsAmong l.wanted (take l.holding-index l.list) → ⊥
