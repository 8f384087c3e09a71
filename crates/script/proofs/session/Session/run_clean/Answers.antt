use Rattle.std.proofs.Common.{ℕ, List, refl, subst}
use Rattle.lines.specs.Grammar.{Clean}
use Rattle.script.specs.Sessions.{SessionAnswers}
use Rattle.script.proofs.Sessions.{node_answers}
use Rattle.script.proofs.session.Session.run_clean.Goals as goal

pub returns-clause-ran : goal.returns-clause-ran
returns-clause-ran c =
    subst (λ (ids : List ℕ). SessionAnswers c.args.self.now (Clean ids)
    (record c.args.self.now { node = c.clean.new.self }) c.clean.result) c.in_ok-victims.ensures
    (node_answers c.args.self.now (Clean _) c.clean.new.self c.clean.result
    (λ config number. c.clean.ensures.told config) c.clean.ensures.cleaned refl refl refl tt)
