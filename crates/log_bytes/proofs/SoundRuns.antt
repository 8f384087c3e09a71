-- At each stop of each run over a fleet its picture is sound.
use Rattle.log_laws.proofs.HeadOps.{extend_hands_over}
use Rattle.log_bytes.specs.Segments.{OpLeavesSegments}
use Rattle.log_bytes.proofs.Leaving.{op_leaves_segments}

pub op_leaves : OpLeavesSegments
op_leaves = op_leaves_segments extend_hands_over
