use Rattle.std.proofs.Common.{refl}
use Rattle.cleaner.proofs.Fillings.{fewer_fill_no_more, one_if_all_fit, more_fill_no_fewer, segment_fills_one_more}
use Rattle.cleaner.proofs.laws.survivors_are_counted.Goals as goal

pub returns : goal.returns
returns c = record {
  fewer = fewer_fill_no_more;
  one = one_if_all_fit;
  more = more_fill_no_fewer;
  segment = segment_fills_one_more;
  hundreds = (refl, refl, refl, refl, refl, refl);
}
