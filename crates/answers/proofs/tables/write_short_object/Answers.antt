use Rattle.std.proofs.Common.{◌∙◌}
use Rattle.answers.proofs.Fronts.{handed_as}
use Rattle.answers.proofs.tables.write_short_object.Goals as goal

pub returns : goal.returns
returns g c = handed_as _ _ _ _ c.hand.result c.hand.ensures (c.as_slice.ensures ∙ c.object_line.ensures)
