use Rattle.std.proofs.Common.{inl, refl, subst}
use Rattle.std.proofs.KnownBytes.{Keeps-refl}
use Rattle.lines.specs.Grammar.{shown_command, shown_line}
use Rattle.raw_lines.specs.Raw.{SaysIn}
use Rattle.lines.specs.declared.line.Line.{Line}
use Rattle.script.specs.Turns.{IsPrinted}
use Rattle.script.proofs.Commanding.{command_of_fleet, is_command}
use Rattle.script.proofs.Turning.{answer_cut}
use Rattle.script.proofs.running.run_text.Goals as goal

pub returns-in-Ok-printed : goal.returns-in-Ok-printed
returns-in-Ok-printed g c =
    let ran = c.run_command-printed.ensures in
    let held = g.W.Write.contents c.args.writer.now in
    let holds = g.W.Write.contents c.run_command-printed.new.writer in (
      ran.0,
      record {
        line = shown_command c.in-Command.command;
        says = subst (λ (l : Line). SaysIn c.args.is_raw c.args.text.now (shown_line l)) c.in-Command.is
            c.in-Ok.ensures.sound;
        of_fleet = command_of_fleet _ c.in-Command.command;
        runs = (c.run_command-printed.new.session, inl ran.1, c.forget-in-Command.ensures);
      },
      subst (IsPrinted c.args.is_raw held holds ran.0) c.in-Ok-printed.is ran.2,
      is_command c.in-Command.command,
    )

pub returns-in-Err-printed : goal.returns-in-Err-printed
returns-in-Err-printed g c =
    let ran = c.run_command-printed.ensures in
    let held = g.W.Write.contents c.args.writer.now in
    let holds = g.W.Write.contents c.run_command-printed.new.writer in
    answer_cut c.args.is_raw _ _ _ _ _ _ ran.0 c.in-Err-printed.fault
    (record {
      line = shown_command c.in-Command.command;
      says = subst (λ (l : Line). SaysIn c.args.is_raw c.args.text.now (shown_line l)) c.in-Command.is
          c.in-Ok.ensures.sound;
      of_fleet = command_of_fleet _ c.in-Command.command;
      runs = (c.run_command-printed.new.session, inl ran.1, c.forget-in-Command.ensures);
    })
    (subst (IsPrinted c.args.is_raw held holds ran.0) c.in-Err-printed.is ran.2)

pub returns-in-Err : goal.returns-in-Err
returns-in-Err g c = (
  refl,
  λ line says of_fleet. c.in-Err.ensures.complete refl line says,
  Keeps-refl _,
  inl c.in-Err.ensures.reason,
  c.forget.ensures,
)
