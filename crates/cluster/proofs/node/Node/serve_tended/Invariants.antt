use Rattle.std.proofs.Common.{◌<◌}
use Rattle.history.specs.View.{shown_command}
use Rattle.answers.specs.declared.answer.Answer.TheVariants as answer
use Rattle.answers.specs.driving.master.master_state.declared.step.Refusal.TheVariants.{Full}
use Rattle.cluster.specs.Tended.{HasWay, StaysOn, TellsLine}
use Rattle.cluster.proofs.node.Node.serve_tended.Given as goal

abbrev pub invariant-loop-rounds : goal.invariant-loop-rounds
invariant-loop-rounds l =
    StaysOn l.fn.self l.self × HasWay l.rounds l.fn.self (shown_command l.command) l.self
    × (0 < l.rounds → TellsLine l.fn.self (shown_command l.command) l.self (answer.Refused Full))
