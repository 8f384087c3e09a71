use Rattle.std.proofs.Common.{[], ◌∷◌, ◌++◌}
use Rattle.std.proofs.KnownBytes.{Appends-trans}
use Rattle.answers.proofs.Fronts.{hands_as, out_first, out_later}
use Rattle.answers.proofs.Printed.{versioned_first, versioned_later}
use Rattle.answers.proofs.answer.write_versioned.Goals as goal

pub returns-in_err-write_number : goal.returns-in_err-write_number
returns-in_err-write_number g c =
    out_first _ _ _ (c.args.value.now ++ 10 ∷ []) _ c.from_residual.result c.from_residual.ensures.0
    c.in_err-write_number.ensures (versioned_first c.get-2.result c.args.version c.args.value.now c.get-2.ensures.value)

pub returns-in_err-hand : goal.returns-in_err-hand
returns-in_err-hand g c =
    out_later _ _ _ _ _ (10 ∷ []) _ c.from_residual-in_err-hand.result c.from_residual-in_err-hand.ensures.0
    c.in_ok-write_number.ensures c.in_err-hand.ensures
    (versioned_later c.get-2.result c.args.version c.args.value.now c.get-2.ensures.value)

pub returns : goal.returns
returns g c =
    hands_as _ _ _ _ _ _ c.hand-2.result
    (Appends-trans _ _ _ _ _ c.in_ok-write_number.ensures c.in_ok-hand.ensures) c.hand-2.ensures
    (versioned_later c.get-2.result c.args.version c.args.value.now c.get-2.ensures.value)
