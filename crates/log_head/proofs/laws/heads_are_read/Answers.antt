use Rattle.log_head.proofs.HeadLog.{head_is, end_is, front_is, part_is}
use Rattle.log_head.proofs.laws.heads_are_read.Goals as goal

pub returns : goal.returns
returns c = record {
  head = head_is;
  ends = λ master h l n is. end_is master h l is n;
  fronts = λ master h l n is. front_is master h l is n;
  parts = λ master h l m n is le. part_is master h l is m n le;
}
