use Rattle.std.proofs.Common.{ℕ}
use Rattle.history.specs.View.{shown_command}
use Rattle.versioned_map.specs.declared.command.Reply.{Reply}
use Rattle.master_core.specs.master_state.declared.step.StepAnswer.TheVariants.{Applied}
use Rattle.master.specs.World.{world}
use Rattle.master.proofs.Accepted.{command_keeps, command_remembers}
use Rattle.master.proofs.master.Master.answer.Goals as goal

pub returns-clause-keeps : goal.returns-clause-keeps
returns-clause-keeps g c =
    command_keeps (ℕ × Reply) (λ a. Applied a.0 a.1) (world g.F.Fleet.state c.args.self.now)
    (world g.F.Fleet.state c.reply-answer.new.self) c.args.seat (shown_command c.args.command.now)
    c.reply-answer.result c.show_kept.ensures c.reply-answer.ensures.accepted c.reply-answer.ensures.refused

pub returns-clause-remembers : goal.returns-clause-remembers
returns-clause-remembers g c =
    command_remembers (ℕ × Reply) (λ a. Applied a.0 a.1) (world g.F.Fleet.state c.args.self.now)
    (world g.F.Fleet.state c.reply-answer.new.self) c.args.seat (shown_command c.args.command.now)
    c.reply-answer.result c.reply-answer.ensures.accepted c.reply-answer.ensures.refused
