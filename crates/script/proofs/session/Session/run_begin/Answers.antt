use Rattle.std.proofs.Common.{ℕ, List, refl, subst}
use Rattle.lines.specs.Grammar.{Begin}
use Rattle.script.specs.Sessions.{SessionAnswers}
use Rattle.script.proofs.Sessions.{node_answers}
use Rattle.script.proofs.session.Session.run_begin.Goals as goal

pub returns-clause-ran : goal.returns-clause-ran
returns-clause-ran c =
    subst (λ (ids : List ℕ). SessionAnswers c.args.self.now (Begin ids)
    (record c.args.self.now { node = c.step.new.self }) c.step.result) c.in_ok-victims.ensures
    (node_answers c.args.self.now (Begin _) c.step.new.self c.step.result
    (λ config number. c.step.ensures.told config) c.step.ensures.stepped refl refl refl tt)
