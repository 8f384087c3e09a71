use Rattle.std.proofs.Common.{◌≡◌, map, drop, ◌++◌}
use Rattle.segment.specs.View.{entries_left}
use Rattle.claims.specs.Claims.{claimed, claims_of}
use Rattle.claims.specs.Bags.{segments_bag}
use Rattle.claims.proofs.gathering.claims_in.Given as goal

abbrev pub invariant-loop-entry : goal.invariant-loop-entry
invariant-loop-entry l =
    map claimed l.claims.items ++ claims_of (entries_left l.entry-iterator) ≡
    map claimed l.initial.claims.items ++ claims_of (entries_left l.initial.entry-iterator)

abbrev pub invariant-loop-segment : goal.invariant-loop-segment
invariant-loop-segment l =
    map claimed l.claims.items ++ claims_of (segments_bag (drop l.segment-index l.segments))
    ≡ claims_of (segments_bag l.segments)
