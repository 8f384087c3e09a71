use Rattle.answers.proofs.Printed.{part_handed, part_cut_first, part_cut_second, part_cut_third}
use Rattle.answers.proofs.Fronts.{fails_out}
use Rattle.answers.proofs.tables.write_part.Goals as goal

pub returns-in_err-write_number : goal.returns-in_err-write_number
returns-in_err-write_number g c = fails_out _ _ _ c.from_residual.result c.from_residual.ensures.0
    (part_cut_first c.args.part.now _ _ c.in_err-write_number.ensures)

pub returns-in_err-write_place : goal.returns-in_err-write_place
returns-in_err-write_place g c =
    fails_out _ _ _ c.from_residual-in_err-write_place.result c.from_residual-in_err-write_place.ensures.0
    (part_cut_second c.args.part.now _ _ _ c.in_ok-write_number.ensures c.in_err-write_place.ensures)

pub returns-in_err-write_place-2 : goal.returns-in_err-write_place-2
returns-in_err-write_place-2 g c =
    fails_out _ _ _ c.from_residual-in_err-write_place-2.result c.from_residual-in_err-write_place-2.ensures.0
    (part_cut_third c.args.part.now _ _ _ _ c.in_ok-write_number.ensures c.in_ok-write_place.ensures
    c.in_err-write_place-2.ensures)

pub returns : goal.returns
returns g c = part_handed c.args.part.now _ _ _ _ _ c.write_number-2.result c.in_ok-write_number.ensures
    c.in_ok-write_place.ensures c.in_ok-write_place-2.ensures c.write_number-2.ensures
