use Rattle.std.proofs.Common.{ℕ}
use Rattle.history.specs.View.{shown_command}
use Rattle.versioned_map.specs.declared.command.Reply.{Reply}
use Rattle.master_core.specs.master_state.declared.step.StepAnswer.{StepAnswer}
use Rattle.master_core.specs.master_state.declared.step.StepAnswer.TheVariants.{Applied}
use Rattle.master_core.specs.master_state.Steps.{reply_now}
use Rattle.master.proofs.Accepted.{kept_then, accepts, declines}
use Rattle.master.proofs.master.Master.add.Goals as goal

-- the answer that tells the place
abbrev told : Reply → ℕ → StepAnswer
told reply place = Applied place reply

pub returns-clause-accepted : goal.returns-clause-accepted
returns-clause-accepted g c =
    let command = shown_command c.args.command.now in
    rw (← c.self.view_is) (accepts ℕ (told (reply_now c.self.inside.core command)) c.self.inside.core
    c.accept.new.core (g.F.Fleet.state c.self.inside.fleet) c.args.seat command c.accept.result
    c.accept.ensures.accepted)

pub returns-clause-refused : goal.returns-clause-refused
returns-clause-refused g c =
    let command = shown_command c.args.command.now in
    rw (← c.self.view_is) (declines ℕ (told (reply_now c.self.inside.core command)) c.self.inside.core
    c.accept.new.core (g.F.Fleet.state c.self.inside.fleet) c.args.seat command c.accept.result
    c.accept.ensures.refused c.accept.ensures.err)

pub invariant_of-self : goal.invariant_of-self
invariant_of-self g c =
    let command = shown_command c.args.command.now in
    kept_then ℕ (told (reply_now c.self.inside.core command)) c.self.inside.core c.accept.new.core
    (g.F.Fleet.state c.self.inside.fleet) c.args.seat command c.accept.result c.self.invariant
    c.accept.ensures.accepted c.accept.ensures.may c.accept.ensures.valid c.accept.ensures.err
