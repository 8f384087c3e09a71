use Rattle.std.proofs.Common.{◌≡◌, ◌∙◌, ◌≤◌, ℕ, arith, refl}
use Rattle.lines.specs.Grammar.{shown_command}
use Rattle.next_master.specs.answers.declared.answer.Answer.TheVariants as answers
use Rattle.script.proofs.Tried.{replied_answers}
use Rattle.script.proofs.running.run_command.Goals as goal

pub returns-in-Ok : goal.returns-in-Ok
returns-in-Ok g c =
    let t = c.in-Replied.ensures in (
      answers.Reply t.tries.0,
      replied_answers c.args.session.now c.serve.new.self (shown_command c.args.line) c.in-Replied.place t,
      c.in-Ok.ensures t.tries.0 t.tries.1,
    )

pub returns-in-Err : goal.returns-in-Err
returns-in-Err g c =
    let t = c.in-Replied.ensures in (
      answers.Reply t.tries.0,
      replied_answers c.args.session.now c.serve.new.self (shown_command c.args.line) c.in-Replied.place t,
      (refl, c.in-Err.ensures t.tries.0 t.tries.1),
    )

pub serve-requires-clause-plain : goal.serve-requires-clause-plain
serve-requires-clause-plain g c = λ command asks.
    c.steps_behind-steps.ensures command asks ∙ none c.steps_behind-steps.result c.if-steps-gt0.false
  where
    none : (n : ℕ) → n ≤ 0 → n ≡ 0
    none n few = omega (arith, few)
