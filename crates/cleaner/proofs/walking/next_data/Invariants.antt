use Rattle.std.proofs.Common.{length, ◌-◌, ◌≤◌}
use Rattle.cleaner.proofs.Cursors.{IsOnWay}
use Rattle.cleaner.proofs.walking.next_data.Given as goal

abbrev pub invariant-loop-at : goal.invariant-loop-at
invariant-loop-at l = record { way : IsOnWay l.segment l.from l.at; within : l.at ≤ length l.text }

abbrev pub decreases-loop-at : goal.decreases-loop-at
decreases-loop-at l = length l.text - l.at
