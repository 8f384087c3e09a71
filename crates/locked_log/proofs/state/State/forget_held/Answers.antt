use Rattle.std.proofs.Common.{refl}
use Rattle.locked_log.proofs.Forgot.{forgot}
use Rattle.locked_log.proofs.state.State.forget_held.Goals as goal

pub invariant_of-self : goal.invariant_of-self
invariant_of-self g c =
    (forgot g.F.Fleet.state _ c.args.self.now c.self.view_is g.B.Naming.made c.self.invariant c.bound-bound.result
    c.bound-bound.ensures.settled c.bound-bound.ensures.near _ c.forget.ensures.gives c.forget.ensures.fleet
    c.forget.ensures.keeps c.forget.ensures.valid _ refl).valid

pub returns-clause-forgets : goal.returns-clause-forgets
returns-clause-forgets g c =
    (forgot g.F.Fleet.state _ c.args.self.now c.self.view_is g.B.Naming.made c.self.invariant c.bound-bound.result
    c.bound-bound.ensures.settled c.bound-bound.ensures.near _ c.forget.ensures.gives c.forget.ensures.fleet
    c.forget.ensures.keeps c.forget.ensures.valid _ c.forgotten.ensures).forgets

pub returns-clause-lasts : goal.returns-clause-lasts
returns-clause-lasts g c =
    (forgot g.F.Fleet.state _ c.args.self.now c.self.view_is g.B.Naming.made c.self.invariant c.bound-bound.result
    c.bound-bound.ensures.settled c.bound-bound.ensures.near _ c.forget.ensures.gives c.forget.ensures.fleet
    c.forget.ensures.keeps c.forget.ensures.valid _ c.forgotten.ensures).lasts

pub returns-clause-valid : goal.returns-clause-valid
returns-clause-valid g c =
    (forgot g.F.Fleet.state _ c.args.self.now c.self.view_is g.B.Naming.made c.self.invariant c.bound-bound.result
    c.bound-bound.ensures.settled c.bound-bound.ensures.near _ c.forget.ensures.gives c.forget.ensures.fleet
    c.forget.ensures.keeps c.forget.ensures.valid _ c.forgotten.ensures).valid
