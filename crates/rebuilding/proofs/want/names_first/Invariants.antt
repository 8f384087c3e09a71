use Rattle.std.proofs.Common.{◌≢◌, ℕ, ◌*◌, ◌<◌}
use Rattle.std.specs.Prelude.{slice_index}
use Rattle.rebuilding.proofs.want.names_first.Given as goal

abbrev pub invariant-loop-n : goal.invariant-loop-n
invariant-loop-n l = (i : ℕ) → i < l.n-index → slice_index l.order i ≢ l.at * l.partitions
