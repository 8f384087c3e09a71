use Rattle.std.proofs.Common.{refl, subst}
use Rattle.std.specs.Io.KnownBytes.{Appends}
use Rattle.next_master.specs.answers.Errors.{AppendsFront}
use Rattle.next_master.specs.answers.declared.answer.Answer.{Answer}
use Rattle.raw_answers.specs.Texts.{told_text}
use Rattle.script.specs.declared.outcome.Outcome.{Outcome}
use Rattle.script.specs.declared.outcome.Outcome.TheVariants as outcome
use Rattle.script.specs.Sessions.{IsPrintedAs}
use Rattle.script.specs.Turns.{IsPrinted}
use Rattle.script.proofs.printing.print.Goals as goal

pub returns-in-Answered : goal.returns-in-Answered
returns-in-Answered g c = λ answer printed.
    let held = g.W.Write.contents c.args.writer.now in
    let holds = g.W.Write.contents c.print_answer.new.writer in
    let told : IsPrintedAs c.args.session.now (outcome.Answered c.in-Answered.answer) answer =
    subst (λ (o : Outcome). IsPrintedAs c.args.session.now o answer) c.in-Answered.is printed in
    subst (λ (a : Answer). IsPrinted c.args.is_raw held holds a c.print_answer.result) told c.print_answer.ensures

pub write_reply-requires : goal.write_reply-requires
write_reply-requires g c =
    let told : IsPrintedAs c.args.session.now (outcome.Replied c.in-Replied.place) c.requires.0 =
    subst (λ (o : Outcome). IsPrintedAs c.args.session.now o c.requires.0) c.in-Replied.is c.requires.1 in
    (told.0, told.1)

pub returns-in-Ok : goal.returns-in-Ok
returns-in-Ok g c = λ answer printed.
    let held = g.W.Write.contents c.args.writer.now in
    let holds = g.W.Write.contents c.write_reply.new.writer in
    let told : IsPrintedAs c.args.session.now (outcome.Replied c.in-Replied.place) answer =
    subst (λ (o : Outcome). IsPrintedAs c.args.session.now o answer) c.in-Replied.is printed in
    subst (λ (a : Answer). Appends held holds (told_text c.args.is_raw a)) told.2 (c.in-Ok.ensures told.0 told.1)

pub returns-in-Err : goal.returns-in-Err
returns-in-Err g c = λ answer printed.
    let held = g.W.Write.contents c.args.writer.now in
    let holds = g.W.Write.contents c.write_reply.new.writer in
    let told : IsPrintedAs c.args.session.now (outcome.Replied c.in-Replied.place) answer =
    subst (λ (o : Outcome). IsPrintedAs c.args.session.now o answer) c.in-Replied.is printed in (
      refl,
      subst (λ (a : Answer). AppendsFront held holds (told_text c.args.is_raw a)) told.2
          (c.in-Err.ensures told.0 told.1),
    )
