use Rattle.std.proofs.Common.{Bool, ◌++◌, ◌∙◌, ap, append-nil, subst, List, ℕ}
use Rattle.std.specs.Prelude.{codes}
use Rattle.answers.specs.Errors.{Writes}
use Rattle.answers.specs.Texts.{config_why_line, error_line}
use Rattle.answers.proofs.Fronts.{writes_lines}
use Rattle.answers.proofs.fault.report_config.Goals as goal

pub returns-clause-lines : goal.returns-clause-lines
returns-clause-lines g c =
    let text = append-nil (codes "bad configuration " ++ c.name.result.now)
    ∙ ap (λ (l : List ℕ). codes "bad configuration " ++ l) c.name.ensures in
    writes_lines _ _ _ _ _ (λ (explains : Bool). config_why_line explains c.args.config.now c.args.fault)
    (subst (λ (l : List ℕ). Writes c.args.errors.now c.write_line.new.errors (error_line l)) text c.write_line.ensures)
    c.write_config_why.ensures c.flush.ensures
