use Rattle.answers.specs.Texts.{segment_text}
use Rattle.recovery.specs.master.declared.segments.Role.TheVariants as role
use Rattle.answers.proofs.Fronts.{fails_out, one_cut}
use Rattle.answers.proofs.Printed.{one_printed}
use Rattle.answers.proofs.segment_rows.write_segments.Goals as goal

pub loop-row-preserved : goal.loop-row-preserved
loop-row-preserved g c =
    one_printed segment_text c.args.rows.now c.loop-row.row-index
    (record { id = 0; role = role.Head; len = 0; kept = 0; replicas = 0 }) _ _ _ c.loop-row-test.true
    c.loop-row.invariant c.in_ok-write_segment.ensures

pub returns-in_err-write_segment : goal.returns-in_err-write_segment
returns-in_err-write_segment g c =
    fails_out _ _ _ c.from_residual.result c.from_residual.ensures.0
    (one_cut segment_text c.args.rows.now c.loop-row.row-index
    (record { id = 0; role = role.Head; len = 0; kept = 0; replicas = 0 }) _ _ _ c.loop-row-test.true
    c.loop-row.invariant c.in_err-write_segment.ensures)
