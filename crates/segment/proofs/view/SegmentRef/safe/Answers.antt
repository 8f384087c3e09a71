use Rattle.std.proofs.Common.{rules}
use Rattle.segment.proofs.view.SegmentRef.safe.Goals as goal

pub returns-in-Safe : goal.returns-in-Safe
returns-in-Safe c = search rules
