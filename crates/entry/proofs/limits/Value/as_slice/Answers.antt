use Rattle.std.proofs.Common.{◌∙◌}
use Rattle.entry.proofs.limits.Value.as_slice.Goals as goal

pub returns-clause-bytes : goal.returns-clause-bytes
returns-clause-bytes c = c.as_slice.ensures ∙ c.self.view_is
