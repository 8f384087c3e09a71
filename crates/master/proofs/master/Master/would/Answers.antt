use Rattle.master.proofs.master.Master.would.Goals as goal

pub returns : goal.returns
returns g c = rw (← c.self.view_is) c.would.ensures
