use Rattle.std.proofs.Common.{◌≡◌, ◌≤◌, None}
use Rattle.master_state.specs.Log.{place_in}
use Rattle.master_state.proofs.config.Config.place_in.Given as goal

-- none of those before is on the backup
abbrev pub invariant-loop-replica : goal.invariant-loop-replica
invariant-loop-replica l =
    (l.replica ≤ l.replicas) × (place_in l.self l.failed l.segment l.replica l.backup ≡ None)
