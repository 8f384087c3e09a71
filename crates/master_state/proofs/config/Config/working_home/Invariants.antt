use Rattle.std.proofs.Common.{◌≡◌, ◌<◌, ◌≤◌, length}
use Rattle.master_state.specs.Log.{home}
use Rattle.master_state.proofs.Homes.{item, order_from}
use Rattle.master_state.proofs.config.Config.working_home.Given as goal

-- the home is at a place of what is left of the order
abbrev pub invariant-loop-place : goal.invariant-loop-place
invariant-loop-place l =
    let rest = order_from l.self l.failed l.segment l.place in
    (l.place ≤ l.self.backups) × (l.left < length rest) × (item rest l.left ≡ home l.self l.failed l.segment l.replica)
