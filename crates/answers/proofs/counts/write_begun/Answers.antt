use Rattle.std.proofs.Common.{[], ◌∷◌, ◌++◌, refl}
use Rattle.std.specs.List.{flat_map}
use Rattle.std.proofs.KnownBytes.{Appends-trans}
use Rattle.recovery.specs.master.cleaner.Passes.{survivor_ids}
use Rattle.answers.specs.Texts.{spaced_text}
use Rattle.answers.proofs.Fronts.{hands_as, out_first, out_later}
use Rattle.answers.proofs.counts.write_begun.Goals as goal

pub returns-in_err-hand : goal.returns-in_err-hand
returns-in_err-hand g c =
    out_first _ _ _ (flat_map spaced_text (survivor_ids c.args.survivors) ++ 10 ∷ []) _ c.from_residual.result
    c.from_residual.ensures.0 c.in_err-hand.ensures refl

pub returns-in_err-write_survivors : goal.returns-in_err-write_survivors
returns-in_err-write_survivors g c =
    out_later _ _ _ _ _ (10 ∷ []) _ c.from_residual-in_err-write_survivors.result
    c.from_residual-in_err-write_survivors.ensures.0 c.in_ok-hand.ensures c.in_err-write_survivors.ensures refl

pub returns : goal.returns
returns g c =
    hands_as _ _ _ _ _ _ c.hand-2.result
    (Appends-trans _ _ _ _ _ c.in_ok-hand.ensures c.in_ok-write_survivors.ensures) c.hand-2.ensures refl
