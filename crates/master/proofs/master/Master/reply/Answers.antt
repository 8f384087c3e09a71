use Rattle.std.proofs.Common.{ℕ}
use Rattle.history.specs.View.{shown_command}
use Rattle.versioned_map.specs.declared.command.Reply.{Reply}
use Rattle.master_core.specs.master_state.declared.step.StepAnswer.{StepAnswer}
use Rattle.master_core.specs.master_state.declared.step.StepAnswer.TheVariants.{Applied}
use Rattle.master.proofs.Accepted.{kept_then, accepts, declines}
use Rattle.master.proofs.master.Master.reply.Goals as goal

-- the answer that tells the place and the reply
abbrev told : ℕ × Reply → StepAnswer
told a = Applied a.0 a.1

pub returns-clause-accepted : goal.returns-clause-accepted
returns-clause-accepted g c =
    rw (← c.self.view_is) (accepts (ℕ × Reply) told c.self.inside.core c.answer.new.core
    (g.F.Fleet.state c.self.inside.fleet) c.args.seat (shown_command c.args.command.now) c.answer.result
    c.answer.ensures.applied)

pub returns-clause-refused : goal.returns-clause-refused
returns-clause-refused g c =
    rw (← c.self.view_is) (declines (ℕ × Reply) told c.self.inside.core c.answer.new.core
    (g.F.Fleet.state c.self.inside.fleet) c.args.seat (shown_command c.args.command.now) c.answer.result
    c.answer.ensures.refused c.answer.ensures.err)

pub invariant_of-self : goal.invariant_of-self
invariant_of-self g c =
    kept_then (ℕ × Reply) told c.self.inside.core c.answer.new.core (g.F.Fleet.state c.self.inside.fleet)
    c.args.seat (shown_command c.args.command.now) c.answer.result c.self.invariant
    c.answer.ensures.applied c.answer.ensures.may c.answer.ensures.valid c.answer.ensures.err
