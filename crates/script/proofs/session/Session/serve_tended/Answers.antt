use Rattle.std.proofs.Common.{refl}
use Rattle.lines.specs.Grammar.{shown_command}
use Rattle.history.specs.View.{shown_command as lent_command}
use Rattle.next_master.specs.answers.declared.answer.Answer.TheVariants as answers
use Rattle.script.proofs.Tried.{tended_answers}
use Rattle.script.proofs.session.Session.serve_tended.Goals as goal

pub serve_tended-requires : goal.serve_tended-requires
serve_tended-requires c = record { steps = c.requires.tended.0 }

pub returns-in-Ok : goal.returns-in-Ok
returns-in-Ok c =
    let t = c.in-Ok.ensures in
    let line = shown_command c.args.line in
    let command = lent_command c.line_command.result in
    let answer = answers.Reply t.0 in (
      answer,
      (t.0, t.1, refl),
      tended_answers c.args.self.now _ line command c.args.steps c.line_command.ensures
          (c.requires.tended.1 command c.line_command.ensures) answer t.2 t.3,
    )

pub returns-in-Err : goal.returns-in-Err
returns-in-Err c =
    let t = c.in-Err.ensures in
    let line = shown_command c.args.line in
    let command = lent_command c.line_command.result in
    let answer = c.in-Err.answer in (
      answer,
      refl,
      tended_answers c.args.self.now _ line command c.args.steps c.line_command.ensures
          (c.requires.tended.1 command c.line_command.ensures) answer t.0 t.1,
    )
