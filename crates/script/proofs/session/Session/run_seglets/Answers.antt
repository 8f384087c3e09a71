use Rattle.std.proofs.Common.{◌≡◌, ◌∙◌, sym, ap, subst}
use Rattle.lines.specs.Grammar.{Seglets}
use Rattle.next_master.specs.Configuration.{MayBegin}
use Rattle.next_master.specs.declared.later.Later.{Later}
use Rattle.next_master.specs.answers.declared.answer.Answer.TheVariants as answer
use Rattle.script.specs.declared.session.Session.{Session}
use Rattle.script.specs.Sessions.{SessionAnswers, later_after}
use Rattle.script.proofs.Sessions.{seglets_answers}
use Rattle.script.proofs.session.Session.run_seglets.Goals as goal

pub returns-clause-ran : goal.returns-clause-ran
returns-clause-ran c =
    let s = c.args.self.now in
    let yes = c.if-not-set_later.false in
    let later = c.with_seglets-later.ensures in
    let is : c.set_later.new.self ≡ record s { later = later_after (Seglets c.args.seglets) s.later } =
    c.set_later.ensures.set yes ∙ ap (λ (l : Later). record s { later = l }) later in
    let may : MayBegin (later_after (Seglets c.args.seglets) s.later) s.options =
    subst (λ (l : Later). MayBegin l s.options) later (c.set_later.ensures.begins yes) in
    subst (λ (x : Session). SessionAnswers s (Seglets c.args.seglets) x (answer.Seglets c.args.seglets)) (sym is)
    (seglets_answers s c.args.seglets may)

pub returns-then-not-set_later-clause-refused : goal.returns-then-not-set_later-clause-refused
returns-then-not-set_later-clause-refused c =
    let s = c.args.self.now in (
      tt,
      λ may. c.set_later.ensures.refused c.if-not-set_later.true
          (subst (λ (l : Later). MayBegin l s.options) (sym c.with_seglets-later.ensures) may),
    )
