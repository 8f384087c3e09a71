use Rattle.std.proofs.Common.{refl}
use Rattle.segment.proofs.view.SegmentRef.to_segment.Goals as goal

pub invariant_of-result : goal.invariant_of-result
invariant_of-result c = rw c.in_ok-bytes.ensures.items c.self.invariant

pub returns : goal.returns
returns c = rw (← c.self.view_is, c.in_ok-bytes.ensures.items) refl
