use Rattle.std.proofs.Common.{◌∙◌}
use Rattle.entry.proofs.row.Row.as_slice.Goals as goal

pub returns : goal.returns
returns g c = c.as_slice.ensures.value ∙ c.self.view_is
