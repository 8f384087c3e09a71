use Rattle.std.proofs.Common.{refl, sym, ap, subst}
use Rattle.lines.specs.Grammar.{shown_command}
use Rattle.next_master.specs.answers.declared.answer.Answer.TheVariants as answers
use Rattle.next_master.specs.cluster.declared.tried.Tried.{Tried}
use Rattle.next_master.specs.cluster.declared.tried.Tried.TheVariants as tried
use Rattle.next_master.specs.cluster.Waits.{TriesLine}
use Rattle.script.specs.declared.session.Session.{Session}
use Rattle.script.specs.Sessions.{AnswersAfterRoll, SessionAnswers}
use Rattle.script.proofs.Tried.{tried_answers, waited_answers}
use Rattle.script.proofs.session.Session.finish.Goals as goal

pub returns-in-Replied : goal.returns-in-Replied
returns-in-Replied c = λ first t.
    let now = c.args.self.now in
    let line = shown_command c.args.line in
    let tries : TriesLine first.node t.command now.node (tried.Replied c.in-Replied.place) =
    subst (λ (r : Tried). TriesLine first.node t.command now.node r) c.in-Replied.is t.tries in
    let answer = answers.Reply tries.0 in (
      answer,
      (tries.0, tries.1, refl),
      subst (λ (s : Session). SessionAnswers first line s answer) (sym t.rest)
          (tried_answers first now.node line t.command t.asks answer tries.2 tries.3 t.plain),
    )

pub returns-in-Waits : goal.returns-in-Waits
returns-in-Waits c = λ first t.
    let now = c.args.self.now in
    let line = shown_command c.args.line in
    let tries : TriesLine first.node t.command now.node tried.Waits =
    subst (λ (r : Tried). TriesLine first.node t.command now.node r) c.in-Waits.is t.tries in
    let last = c.run_after_roll.ensures in
    let ran = subst (λ (s : Session). AnswersAfterRoll s line c.run_after_roll.new.self last.0) t.rest last.2 in (
      last.0,
      last.1,
      waited_answers first now.node line t.command t.asks c.run_after_roll.new.self last.0 tries.0 tries.1 ran t.plain,
    )

pub refuse-requires : goal.refuse-requires
refuse-requires c =
    let t = c.requires.tried.1 in
    (subst (λ (r : Tried). TriesLine c.requires.tried.0.node t.command c.args.self.now.node r) c.in-Refused.is
    t.tries).0

pub returns-in-Refused : goal.returns-in-Refused
returns-in-Refused c = λ first t.
    let now = c.args.self.now in
    let line = shown_command c.args.line in
    let tries : TriesLine first.node t.command now.node (tried.Refused c.in-Refused.refusal) =
    subst (λ (r : Tried). TriesLine first.node t.command now.node r) c.in-Refused.is t.tries in
    let last = c.refuse.new.self in
    let told = tries.1 last c.refuse.result c.refuse.ensures in (
      c.refuse.result,
      refl,
      subst (λ (s : Session). SessionAnswers first line s c.refuse.result)
          (sym (ap (λ (s : Session). record s { node = last }) t.rest))
          (tried_answers first last line t.command t.asks c.refuse.result told.0 told.1 t.plain),
    )

pub returns-in-Down : goal.returns-in-Down
returns-in-Down c = λ first t.
    let now = c.args.self.now in
    let line = shown_command c.args.line in
    let tries : TriesLine first.node t.command now.node tried.Down =
    subst (λ (r : Tried). TriesLine first.node t.command now.node r) c.in-Down.is t.tries in (
      answers.Down,
      refl,
      subst (λ (s : Session). SessionAnswers first line s answers.Down) (sym t.rest)
          (tried_answers first now.node line t.command t.asks answers.Down tries.0 tries.1 t.plain),
    )
