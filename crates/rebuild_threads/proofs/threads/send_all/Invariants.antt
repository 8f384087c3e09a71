use Rattle.std.proofs.Common.{ℕ, ◌<◌}
use Rattle.std.specs.Prelude.{slice_index}
use Rattle.rebuild_threads.proofs.Divided.{CoversRow}
use Rattle.rebuild_threads.proofs.threads.send_all.Given as goal

abbrev pub invariant-loop-n : goal.invariant-loop-n
invariant-loop-n g l =
    (i : ℕ) → i < l.n-index → CoversRow g.D.Division.parts g.D.Division.segments (slice_index l.order i)
