use Rattle.log_bytes.proofs.Heads.{rolling_has_segments, ended_has_segments, op_has_segments}
use Rattle.log_bytes.proofs.Heads.{others_have_segments}
use Rattle.log_bytes.proofs.SoundRuns.{op_leaves}
use Rattle.log_bytes.proofs.laws.segments_written.Goals as goal

pub returns : goal.returns
returns c = record {
  ops = op_leaves;
  rolling = rolling_has_segments;
  ended = ended_has_segments;
  op = op_has_segments;
  others = others_have_segments;
}
