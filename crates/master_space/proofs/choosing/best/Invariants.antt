use Rattle.std.proofs.Common.{◌≡◌, ◌<◌, ◌≤◌, vec_len}
use Rattle.std.specs.Vec.{vec_capacity}
use Rattle.master_space.proofs.Chosen.{best_from}
use Rattle.master_space.proofs.choosing.best.Given as goal

abbrev pub invariant-loop-at : goal.invariant-loop-at
invariant-loop-at l = record {
  best : l.best.items ≡ best_from l.core l.images l.at;
  few : vec_len l.best ≤ 32;
  room : 32 < vec_capacity l.best;
}
