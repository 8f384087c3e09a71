use Rattle.std.proofs.Common.{rules}
use Rattle.segment.proofs.view.SegmentRef.digest.Goals as goal

pub returns-in_default : goal.returns-in_default
returns-in_default c = search rules
