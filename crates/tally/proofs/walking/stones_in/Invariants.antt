use Rattle.std.proofs.Common.{length, ◌-◌, ◌≤◌}
use Rattle.compactor.specs.Log.{ids_of_log}
use Rattle.tally.proofs.Counting.{IsCounted}
use Rattle.tally.proofs.walking.stones_in.Given as goal

abbrev pub invariant-loop-at : goal.invariant-loop-at
invariant-loop-at l =
    record {
      counted : IsCounted (ids_of_log l.log) l.segment l.at l.len;
      low : l.len ≤ l.at;
      within : l.at ≤ length l.text;
    }

abbrev pub decreases-loop-at : goal.decreases-loop-at
decreases-loop-at l = length l.text - l.at
