use Rattle.history.specs.View.{shown_command}
use Rattle.answers.specs.declared.answer.Answer.TheVariants as answer
use Rattle.cluster.proofs.BesideCleaner.{refuses_no_reply, waited_runs}
use Rattle.cluster.proofs.Tries.{tried_makes}
use Rattle.cluster.proofs.node.Node.run.Goals as goal

pub returns-in-Replied : goal.returns-in-Replied
returns-in-Replied c =
    let t = c.in-Replied.ensures in
    let command = shown_command c.args.command.now in
    (t.0, t.1, t.2, tried_makes _ _ command (answer.Reply t.0) t.3)

pub returns-in-Waits : goal.returns-in-Waits
returns-in-Waits c =
    let t = c.in-Waits.ensures in
    let command = shown_command c.args.command.now in
    waited_runs _ _ _ command c.run_after_roll.result t.0 t.1 c.run_after_roll.ensures

pub returns-in-Refused : goal.returns-in-Refused
returns-in-Refused c =
    let t = c.in-Refused.ensures.1 c.refuse.new.self c.refuse.result c.refuse.ensures in
    let command = shown_command c.args.command.now in
    (t.0, tried_makes _ _ command c.refuse.result t.1, refuses_no_reply _ _ _ c.refuse.result c.refuse.ensures)

pub returns-in-Down : goal.returns-in-Down
returns-in-Down c =
    let t = c.in-Down.ensures in
    let command = shown_command c.args.command.now in
    (t.0, tried_makes _ _ command answer.Down t.1, λ reply is. cc)
