use Rattle.master_core.specs.master_state.declared.step.StepAnswer.{StepAnswer}
use Rattle.master.proofs.Accepted.{kept_then, accepts, declines}
use Rattle.master.proofs.master.Master.apply.Goals as goal

pub returns-clause-accepted : goal.returns-clause-accepted
returns-clause-accepted g c =
    rw (← c.self.view_is) (accepts StepAnswer (λ a. a) c.self.inside.core c.apply.new.core
    (g.F.Fleet.state c.self.inside.fleet) c.args.seat c.args.command c.apply.result
    c.apply.ensures.applied)

pub returns-clause-refused : goal.returns-clause-refused
returns-clause-refused g c =
    rw (← c.self.view_is) (declines StepAnswer (λ a. a) c.self.inside.core c.apply.new.core
    (g.F.Fleet.state c.self.inside.fleet) c.args.seat c.args.command c.apply.result
    c.apply.ensures.refused c.apply.ensures.err)

pub invariant_of-self : goal.invariant_of-self
invariant_of-self g c =
    kept_then StepAnswer (λ a. a) c.self.inside.core c.apply.new.core (g.F.Fleet.state c.self.inside.fleet)
    c.args.seat c.args.command
    c.apply.result c.self.invariant
    c.apply.ensures.applied c.apply.ensures.may c.apply.ensures.valid c.apply.ensures.err
