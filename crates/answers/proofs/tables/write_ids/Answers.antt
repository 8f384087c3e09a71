use Rattle.std.proofs.Common.{rules}
use Rattle.answers.specs.Texts.{spaced_text}
use Rattle.answers.proofs.Fronts.{fails_out, one_cut}
use Rattle.answers.proofs.Printed.{one_printed}
use Rattle.answers.proofs.tables.write_ids.Goals as goal

pub loop-id-preserved : goal.loop-id-preserved
loop-id-preserved g c =
    one_printed spaced_text c.args.ids.now c.loop-id.id-index 0 _ _ _ c.loop-id-test.true
    c.loop-id.invariant (search rules)

pub returns-in_err-write_spaced : goal.returns-in_err-write_spaced
returns-in_err-write_spaced g c =
    fails_out _ _ _ c.from_residual.result c.from_residual.ensures.0
    (one_cut spaced_text c.args.ids.now c.loop-id.id-index 0 _ _ _
    c.loop-id-test.true c.loop-id.invariant c.in_err-write_spaced.ensures)
