use Rattle.answers.proofs.Fronts.{hands_as, out_first}
use Rattle.raw_answers.proofs.Parts.{version_first}
use Rattle.raw_answers.proofs.telling.write_raw_value.Goals as goal

pub returns-in_err-write_number : goal.returns-in_err-write_number
returns-in_err-write_number g c =
    out_first _ _ _ _ _ c.from_residual.result c.from_residual.ensures.0 c.in_err-write_number.ensures
    (version_first c.get.result c.args.version _ c.get.ensures.value)

pub returns : goal.returns
returns g c =
    hands_as _ _ _ _ _ _ c.write_counted.result c.in_ok-write_number.ensures c.write_counted.ensures
    (version_first c.get.result c.args.version _ c.get.ensures.value)
