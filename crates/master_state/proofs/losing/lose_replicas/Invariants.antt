use Rattle.std.proofs.Common.{◌≡◌, ◌≤◌, length}
use Rattle.images.specs.Sorted.{changed_front}
use Rattle.master_state.specs.Steps.{lost_image}
use Rattle.master_state.proofs.losing.lose_replicas.Given as goal

-- the images before the place have lost a replica, or had none there
abbrev pub invariant-loop-place : goal.invariant-loop-place
invariant-loop-place l =
    (l.place ≤ length l.initial.closed.images)
    × (l.closed ≡ record l.initial.closed {
      images = changed_front l.initial.closed.images l.place (lost_image l.config l.failed l.backup);
    })
