use Rattle.std.proofs.Common.{length, ◌-◌}
use Rattle.tally.proofs.Opened.{IsPassed}
use Rattle.tally.proofs.walking.opening_len.Given as goal

abbrev pub invariant-loop-at : goal.invariant-loop-at
invariant-loop-at l = IsPassed l.segment l.text l.at

abbrev pub decreases-loop-at : goal.decreases-loop-at
decreases-loop-at l = length l.text - l.at
