use Rattle.master.proofs.Forgetting.{forgets_kept, forgets_near, forgets_keep}
use Rattle.master.proofs.master.Master.forget.Goals as goal

pub invariant_of-self : goal.invariant_of-self
invariant_of-self g c =
    forgets_kept c.self.inside.core c.forget.new.self c.args.n c.forget.ensures.forgets
    (g.F.Fleet.state c.self.inside.fleet) c.self.invariant c.forget.ensures.valid

pub returns-clause-gives : goal.returns-clause-gives
returns-clause-gives g c = rw (← c.self.view_is) c.forget.ensures.forgets

pub returns-clause-near : goal.returns-clause-near
returns-clause-near g c =
    rw (← c.self.view_is) (forgets_near c.self.inside.core c.forget.new.self c.args.n c.forget.ensures.forgets
    (g.F.Fleet.state c.self.inside.fleet) c.self.invariant)

pub returns-clause-keeps : goal.returns-clause-keeps
returns-clause-keeps g c =
    rw (← c.self.view_is) (forgets_keep c.self.inside.core c.forget.new.self c.args.n c.forget.ensures.forgets
    (g.F.Fleet.state c.self.inside.fleet))
