use Rattle.log_head.proofs.RollLog.{start_is, opening_is, head_in_force, image_in_force}
use Rattle.log_head.proofs.laws.rolls_go_on.Goals as goal

pub returns : goal.returns
returns c = record {
  begins = λ master n has. (start_is master n has, opening_is master n has);
  ends = λ master h r new segment. (head_in_force master h r new segment, image_in_force master h r new segment);
}
