use Rattle.std.proofs.Common.{[], ◌∷◌, ◌++◌, length, refl}
use Rattle.std.proofs.KnownBytes.{Appends-trans}
use Rattle.answers.proofs.Fronts.{hands_as, out_first, out_later}
use Rattle.raw_answers.proofs.Parts.{counted_first, counted_later}
use Rattle.raw_answers.proofs.telling.write_counted.Goals as goal

pub returns-in_err-write_number : goal.returns-in_err-write_number
returns-in_err-write_number g c =
    out_first _ _ _ (c.args.bytes.now ++ c.args.last ∷ []) _ c.from_residual.result c.from_residual.ensures.0
    c.in_err-write_number.ensures (counted_first c.args.bytes.now (length c.args.bytes.now) c.args.last refl)

pub returns-in_err-hand : goal.returns-in_err-hand
returns-in_err-hand g c =
    out_later _ _ _ _ _ (c.args.last ∷ []) _ c.from_residual-in_err-hand.result c.from_residual-in_err-hand.ensures.0
    c.in_ok-write_number.ensures c.in_err-hand.ensures
    (counted_later c.args.bytes.now (length c.args.bytes.now) c.args.last refl)

pub returns : goal.returns
returns g c =
    hands_as _ _ _ _ _ _ c.hand-2.result
    (Appends-trans _ _ _ _ _ c.in_ok-write_number.ensures c.in_ok-hand.ensures) c.hand-2.ensures
    (counted_later c.args.bytes.now (length c.args.bytes.now) c.args.last refl)
