use Rattle.std.proofs.Common.{length, ◌-◌, ◌≤◌}
use Rattle.segment.specs.Walk.{IsWalked}
use Rattle.segment.proofs.reading.check.Given as goal

abbrev pub invariant-loop-at : goal.invariant-loop-at
invariant-loop-at l = (length l.bytes ≤ 8388608) × IsWalked l.bytes l.at l.expected

abbrev pub decreases-loop-at : goal.decreases-loop-at
decreases-loop-at l = length l.bytes - l.at
