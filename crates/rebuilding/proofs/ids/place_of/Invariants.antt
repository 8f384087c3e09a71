use Rattle.std.proofs.Common.{◌≢◌, ℕ, ◌<◌}
use Rattle.std.specs.Prelude.{slice_index}
use Rattle.rebuilding.specs.Rebuilds.{ids_of}
use Rattle.rebuilding.proofs.ids.place_of.Given as goal

abbrev pub invariant-loop-place : goal.invariant-loop-place
invariant-loop-place l = (i : ℕ) → i < l.place → slice_index (ids_of l.segments) i ≢ l.id
