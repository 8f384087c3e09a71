use Rattle.entry.specs.View.{shown_object}
use Rattle.answers.proofs.Printed.{object_cut_first, object_cut_second, object_cut_third, object_handed}
use Rattle.answers.proofs.Fronts.{fails_out}
use Rattle.answers.proofs.tables.write_long_object.Goals as goal

pub returns-in_err-write_number : goal.returns-in_err-write_number
returns-in_err-write_number g c = fails_out _ _ _ c.from_residual.result c.from_residual.ensures.0
    (object_cut_first (shown_object c.args.object.now) _ _ c.in_err-write_number.ensures)

pub returns-in_err-hand : goal.returns-in_err-hand
returns-in_err-hand g c = fails_out _ _ _ c.from_residual-in_err-hand.result c.from_residual-in_err-hand.ensures.0
    (object_cut_second (shown_object c.args.object.now) _ _ _ c.in_ok-write_number.ensures c.in_err-hand.ensures)

pub returns-in_err-hand-2 : goal.returns-in_err-hand-2
returns-in_err-hand-2 g c = fails_out _ _ _ c.from_residual-in_err-hand-2.result c.from_residual-in_err-hand-2.ensures.0
    (object_cut_third (shown_object c.args.object.now) _ _ _ _ c.in_ok-write_number.ensures c.in_ok-hand.ensures
    c.in_err-hand-2.ensures)

pub returns : goal.returns
returns g c = object_handed (shown_object c.args.object.now) _ _ _ _ _ c.write_versioned.result
    c.in_ok-write_number.ensures c.in_ok-hand.ensures c.in_ok-hand-2.ensures c.write_versioned.ensures
