use Rattle.std.proofs.Common.{◌∙◌}
use Rattle.entry.proofs.limits.Ids.as_slice.Goals as goal

pub returns-clause-ids : goal.returns-clause-ids
returns-clause-ids c = c.as_slice.ensures.value ∙ c.self.view_is
