use Rattle.std.proofs.Common.{◌∷◌, ◌∙◌, List, ℕ, ap, refl}
use Rattle.std.specs.Fmt.{decimal}
use Rattle.answers.proofs.Fronts.{hands_as, out_first}
use Rattle.answers.proofs.tables.write_spaced.Goals as goal

pub returns-in_err-hand : goal.returns-in_err-hand
returns-in_err-hand g c = out_first _ _ _ (decimal c.args.number) _ c.from_residual.result c.from_residual.ensures.0
    c.in_err-hand.ensures refl

pub returns : goal.returns
returns g c = hands_as _ _ _ _ _ _ c.hand-2.result c.in_ok-hand.ensures c.hand-2.ensures
    (ap (λ (l : List ℕ). 32 ∷ l) (c.as_bytes.ensures.value ∙ c.format.ensures.text))
