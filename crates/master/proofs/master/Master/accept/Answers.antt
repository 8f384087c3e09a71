use Rattle.std.proofs.Common.{ℕ}
use Rattle.history.specs.View.{shown_command}
use Rattle.master_core.specs.master_state.declared.step.StepAnswer.TheVariants.{Applied}
use Rattle.master_core.specs.master_state.Steps.{reply_now}
use Rattle.master.specs.World.{world}
use Rattle.master.proofs.Accepted.{command_keeps, command_remembers}
use Rattle.master.proofs.master.Master.accept.Goals as goal

pub returns-clause-keeps : goal.returns-clause-keeps
returns-clause-keeps g c =
    let command = shown_command c.args.command.now in
    let reply = reply_now c.args.self.now.knows command in
    command_keeps ℕ (λ place. Applied place reply) (world g.F.Fleet.state c.args.self.now)
    (world g.F.Fleet.state c.add-place.new.self) c.args.seat command c.add-place.result c.show_kept.ensures
    c.add-place.ensures.accepted c.add-place.ensures.refused

pub returns-clause-remembers : goal.returns-clause-remembers
returns-clause-remembers g c =
    let command = shown_command c.args.command.now in
    let reply = reply_now c.args.self.now.knows command in
    command_remembers ℕ (λ place. Applied place reply) (world g.F.Fleet.state c.args.self.now)
    (world g.F.Fleet.state c.add-place.new.self) c.args.seat command c.add-place.result
    c.add-place.ensures.accepted c.add-place.ensures.refused
