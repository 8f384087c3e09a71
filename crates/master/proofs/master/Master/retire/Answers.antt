use Rattle.master.proofs.master.Master.retire.Goals as goal

pub returns-clause-same : goal.returns-clause-same
returns-clause-same g c = rw (← c.self.view_is) c.retire-result.ensures.same

pub returns-clause-retires : goal.returns-clause-retires
returns-clause-retires g c = rw (← c.self.view_is) c.retire-result.ensures.retires
