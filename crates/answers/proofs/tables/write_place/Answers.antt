use Rattle.std.proofs.Common.{[], List, ℕ, ◌∷◌, ◌++◌, ap}
use Rattle.std.specs.List.{flat_map}
use Rattle.answers.specs.Texts.{hex_digits}
use Rattle.answers.proofs.Fronts.{hands_as, out_first}
use Rattle.answers.proofs.tables.write_place.Goals as goal

pub returns-in_err-write_hex_bytes : goal.returns-in_err-write_hex_bytes
returns-in_err-write_hex_bytes g c = out_first _ _ _ (32 ∷ []) _ c.from_residual.result c.from_residual.ensures.0
    c.in_err-write_hex_bytes.ensures
    (ap (λ (bs : List ℕ). flat_map hex_digits bs ++ 32 ∷ []) c.to_be_bytes.ensures)

pub returns : goal.returns
returns g c = hands_as _ _ _ _ _ _ c.hand.result c.in_ok-write_hex_bytes.ensures c.hand.ensures
    (ap (λ (bs : List ℕ). flat_map hex_digits bs ++ 32 ∷ []) c.to_be_bytes.ensures)
