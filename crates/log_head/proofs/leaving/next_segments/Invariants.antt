use Rattle.std.proofs.Common.{vec_capacity}
use Rattle.entry.specs.View.{shown_ids}
use Rattle.log_head.proofs.Listing.{IsListing}
use Rattle.log_head.proofs.leaving.next_segments.Given as goal

abbrev pub invariant-loop-place : goal.invariant-loop-place
invariant-loop-place l =
    IsListing l.old l.image l.leaving.victims.now (shown_ids l.digest) l.leaving.survivors.now l.segments.items
    l.waits l.place (vec_capacity l.segments)
