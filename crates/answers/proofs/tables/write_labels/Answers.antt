use Rattle.std.proofs.Common.{false}
use Rattle.answers.specs.Texts.{label_text}
use Rattle.answers.proofs.Fronts.{fails_out, one_cut}
use Rattle.answers.proofs.Printed.{one_printed}
use Rattle.answers.proofs.tables.write_labels.Goals as goal

pub loop-label-preserved : goal.loop-label-preserved
loop-label-preserved g c =
    one_printed label_text c.args.labels.now c.loop-label.label-index
    (record { backup = 0; master = 0; segment = 0; len = 0; is_open = false }) _ _ _ c.loop-label-test.true
    c.loop-label.invariant c.in_ok-write_label.ensures

pub returns-in_err-write_label : goal.returns-in_err-write_label
returns-in_err-write_label g c =
    fails_out _ _ _ c.from_residual.result c.from_residual.ensures.0
    (one_cut label_text c.args.labels.now c.loop-label.label-index
    (record { backup = 0; master = 0; segment = 0; len = 0; is_open = false }) _ _ _ c.loop-label-test.true
    c.loop-label.invariant c.in_err-write_label.ensures)
