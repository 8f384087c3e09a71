use Rattle.std.proofs.Common.{length, ◌+◌, ◌-◌, ◌≤◌}
use Rattle.compactor.specs.Asked.{asked_bytes, held_bytes}
use Rattle.compactor.specs.Log.{ids_of_log}
use Rattle.compactor.proofs.Walking.{IsSummed}
use Rattle.compactor.proofs.keeping.kept_len.Given as goal

abbrev pub invariant-loop-at : goal.invariant-loop-at
invariant-loop-at l =
    record {
      summed : IsSummed (ids_of_log l.log) l.index.held l.id l.segment l.at
          (l.len + held_bytes l.index.held l.id l.asked.items);
      low : l.len + asked_bytes l.asked.items ≤ l.at;
      within : l.at ≤ length l.text;
    }

abbrev pub decreases-loop-at : goal.decreases-loop-at
decreases-loop-at l = length l.text - l.at
