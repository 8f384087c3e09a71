use Rattle.std.proofs.Common.{Bool, ◌++◌, ◌∙◌, ap, append-nil, subst, sym, List, ℕ}
use Rattle.lines.specs.Texts.{number_text}
use Rattle.answers.specs.Errors.{Writes}
use Rattle.answers.specs.Texts.{error_line, why_line}
use Rattle.answers.proofs.Fronts.{writes_lines}
use Rattle.answers.proofs.fault.report.Goals as goal

pub returns-clause-lines : goal.returns-clause-lines
returns-clause-lines g c =
    let number = number_text c.words-number.result.1 in
    let text = ap (λ (l : List ℕ). l ++ number) (append-nil c.words-number.result.0.now) ∙ sym c.words-number.ensures in
    writes_lines _ _ _ _ _ (λ (explains : Bool). why_line explains c.args.fault.now)
    (subst (λ (l : List ℕ). Writes c.args.errors.now c.write_line.new.errors (error_line l)) text c.write_line.ensures)
    c.write_why.ensures c.flush.ensures
