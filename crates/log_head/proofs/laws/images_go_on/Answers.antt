use Rattle.log_head.proofs.HeadLog.{image_fresh, image_with_unit, image_with_counts, image_lost}
use Rattle.log_head.proofs.SettledLog.{settled_is, image_settled}
use Rattle.log_head.proofs.laws.images_go_on.Goals as goal

pub returns : goal.returns
returns c = record {
  fresh = image_fresh;
  unit = λ master h l number unit is. image_with_unit master h l is number unit;
  counts = λ master h l ks is. image_with_counts master h l is ks;
  lost = λ master h l replica is. image_lost master h l is replica;
  settled = λ master h l is segment opened.
      (settled_is master h l is segment opened, image_settled master h l is segment opened);
}
