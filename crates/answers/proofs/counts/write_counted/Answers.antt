use Rattle.std.proofs.Common.{◌∙◌}
use Rattle.answers.proofs.Fronts.{handed_as}
use Rattle.answers.proofs.counts.write_counted.Goals as goal

pub returns : goal.returns
returns g c = handed_as _ _ _ _ c.hand.result c.hand.ensures (c.as_slice.ensures ∙ c.counted_line.ensures)
