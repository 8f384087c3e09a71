use Rattle.std.proofs.Common.{length, ◌+◌, ◌-◌, ◌≡◌, ◌≤◌, ◌++◌, vec_len, vec_capacity}
use Rattle.compactor.specs.Log.{ids_of_log}
use Rattle.compactor.specs.Piece.{piece}
use Rattle.compactor.proofs.Walking.{IsCopied}
use Rattle.compactor.proofs.compacting.copy_kept.Given as goal

abbrev pub invariant-loop-at : goal.invariant-loop-at
invariant-loop-at l =
    record {
      copied : IsCopied (ids_of_log l.log) l.initial.index.held l.id l.segment l.at
          (l.out.items ++ piece l.from l.at l.text) (vec_capacity l.out) l.index.held;
      room : l.index.room ≡ l.initial.index.room;
      low : vec_len l.out ≤ l.from;
      order : l.from ≤ l.at;
      within : l.at ≤ length l.text;
      fits : vec_len l.out + (l.at - l.from) ≤ vec_capacity l.out;
    }

abbrev pub decreases-loop-at : goal.decreases-loop-at
decreases-loop-at l = length l.text - l.at
