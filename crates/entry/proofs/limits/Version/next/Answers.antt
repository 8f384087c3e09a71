use Rattle.entry.proofs.limits.Version.next.Goals as goal

pub returns-clause-value : goal.returns-clause-value
returns-clause-value c = rw (← c.self.view_is) c.new.ensures.value
