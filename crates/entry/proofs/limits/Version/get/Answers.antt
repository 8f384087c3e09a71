use Rattle.entry.proofs.limits.Version.get.Goals as goal

pub returns-clause-value : goal.returns-clause-value
returns-clause-value c = c.self.view_is
