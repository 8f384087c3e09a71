use Rattle.master.proofs.master.Master.answer_to.Goals as goal

pub answer_to-requires : goal.answer_to-requires
answer_to-requires g c = rw (← c.self.view_is) at c.requires
