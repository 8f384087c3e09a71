use Rattle.std.proofs.Common.{[], ◌∷◌, ◌++◌}
use Rattle.std.specs.List.{flat_map}
use Rattle.std.proofs.KnownBytes.{Appends-trans}
use Rattle.recovery.specs.master.cleaner.Passes.{survivor_ids}
use Rattle.answers.specs.Texts.{spaced_text}
use Rattle.answers.proofs.Fronts.{hands_as, out_first, out_later}
use Rattle.answers.proofs.Printed.{cleaned_pieces}
use Rattle.answers.proofs.counts.write_cleaned.Goals as goal

pub returns-in_err-hand : goal.returns-in_err-hand
returns-in_err-hand g c =
    out_first _ _ _ (flat_map spaced_text (survivor_ids c.args.survivors) ++ (spaced_text c.args.head ++ 10 ∷ [])) _
    c.from_residual.result c.from_residual.ensures.0 c.in_err-hand.ensures
    (cleaned_pieces c.args.survivors c.args.head)

pub returns-in_err-write_survivors : goal.returns-in_err-write_survivors
returns-in_err-write_survivors g c =
    out_later _ _ _ _ _ (spaced_text c.args.head ++ 10 ∷ []) _ c.from_residual-in_err-write_survivors.result
    c.from_residual-in_err-write_survivors.ensures.0 c.in_ok-hand.ensures c.in_err-write_survivors.ensures
    (cleaned_pieces c.args.survivors c.args.head)

pub returns : goal.returns
returns g c =
    hands_as _ _ _ _ _ _ c.write_number.result
    (Appends-trans _ _ _ _ _ c.in_ok-hand.ensures c.in_ok-write_survivors.ensures) c.write_number.ensures
    (cleaned_pieces c.args.survivors c.args.head)
