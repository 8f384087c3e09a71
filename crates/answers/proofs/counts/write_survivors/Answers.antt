use Rattle.std.proofs.Common.{rules}
use Rattle.answers.specs.Texts.{spaced_text}
use Rattle.answers.proofs.Fronts.{fails_out}
use Rattle.answers.proofs.Printed.{next_cut, next_printed}
use Rattle.answers.proofs.counts.write_survivors.Goals as goal

pub loop-place-preserved : goal.loop-place-preserved
loop-place-preserved g c =
    next_printed spaced_text c.args.survivors.first c.loop-place.place _ _ _ c.loop-place.invariant (search rules)

pub returns-in_err-write_spaced : goal.returns-in_err-write_spaced
returns-in_err-write_spaced g c =
    fails_out _ _ _ c.from_residual.result c.from_residual.ensures.0
    (next_cut spaced_text c.args.survivors.first c.loop-place.place c.args.survivors.count _ _ _
    c.loop-place-test.true c.loop-place.invariant (search rules))
