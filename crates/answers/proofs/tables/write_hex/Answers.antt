use Rattle.std.proofs.Common.{[], ◌∷◌, refl}
use Rattle.answers.proofs.Fronts.{hands_as, out_first}
use Rattle.answers.proofs.tables.write_hex.Goals as goal

pub returns-in_err-write_hex_bytes : goal.returns-in_err-write_hex_bytes
returns-in_err-write_hex_bytes g c = out_first _ _ _ (10 ∷ []) _ c.from_residual.result c.from_residual.ensures.0
    c.in_err-write_hex_bytes.ensures refl

pub returns : goal.returns
returns g c = hands_as _ _ _ _ _ _ c.hand.result c.in_ok-write_hex_bytes.ensures c.hand.ensures refl
