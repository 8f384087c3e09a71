use Rattle.std.proofs.Common.{[], ◌∷◌, ◌++◌}
use Rattle.std.proofs.KnownBytes.{Appends-trans}
use Rattle.answers.proofs.Fronts.{hands_as, out_first, out_later}
use Rattle.raw_answers.proofs.Parts.{number_first, table_key}
use Rattle.raw_answers.proofs.telling.write_raw_object.Goals as goal

pub returns-in_err-write_number : goal.returns-in_err-write_number
returns-in_err-write_number g c =
    out_first _ _ _ _ _ c.from_residual.result c.from_residual.ensures.0 c.in_err-write_number.ensures
    (number_first c.args.object.now.key.table 32 _)

pub returns-in_err-write_counted : goal.returns-in_err-write_counted
returns-in_err-write_counted g c =
    out_later _ _ _ _ _ _ _ c.from_residual-in_err-write_counted.result
    c.from_residual-in_err-write_counted.ensures.0 c.in_ok-write_number.ensures c.in_err-write_counted.ensures
    (table_key c.args.object.now.key.table c.args.object.now.key.bytes.now _)

pub returns : goal.returns
returns g c =
    hands_as _ _ _ _ _ _ c.write_raw_value.result
    (Appends-trans _ _ _ _ _ c.in_ok-write_number.ensures c.in_ok-write_counted.ensures) c.write_raw_value.ensures
    (table_key c.args.object.now.key.table c.args.object.now.key.bytes.now _)
