use Rattle.std.proofs.Common.{Option, Ok, sym, subst}
use Rattle.std.specs.Prelude.{IfSome}
use Rattle.store_step.specs.master.master_state.declared.step.Step.{Step}
use Rattle.tending.specs.Tends.{IsTendStep}
use Rattle.locked_log.specs.Held.{Held, held}
use Rattle.locked_log.specs.States.{IsState}
use Rattle.locked_log.proofs.Tending.{tends_by}
use Rattle.locked_log.proofs.state.State.tend_held.Goals as goal

pub returns-in_err-step-clause-valid : goal.returns-in_err-step-clause-valid
returns-in_err-step-clause-valid g c =
    subst (λ (h : Held). IsState h g.B.Naming.made) (sym c.in_err-step.ensures.same) c.show_valid.ensures

pub returns-in_default-clause-valid : goal.returns-in_default-clause-valid
returns-in_default-clause-valid g c =
    subst (λ (h : Held). IsState h g.B.Naming.made) (sym c.in_ok-step.ensures.same) c.show_valid.ensures

pub returns-in-Ok-clause-tends : goal.returns-in-Ok-clause-tends
returns-in-Ok-clause-tends g c =
    let mid = held g.F.Fleet.state c.choose_held.new.self in
    tends_by (held g.F.Fleet.state c.args.self.now) mid (held g.F.Fleet.state c.step_held.new.self) c.in-Some.step
    c.in-Some-of.turn (Ok c.in-Ok.answer) c.in_ok-step.ensures.same
    (subst (λ (o : Option Step). IfSome o (IsTendStep c.choose_held.new.self.master.knows)) c.in-Some.is
    c.in_ok-step.ensures.some)
    c.in-Some-of.ensures.asks c.in-Ok.ensures.turns
