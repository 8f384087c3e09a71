use Rattle.std.proofs.Common.{rules}
use Rattle.answers.specs.Texts.{hex_digits}
use Rattle.answers.proofs.Printed.{one_printed}
use Rattle.answers.proofs.Fronts.{one_cut, fails_out}
use Rattle.answers.proofs.tables.write_hex_bytes.Goals as goal

pub loop-byte-preserved : goal.loop-byte-preserved
loop-byte-preserved g c =
    one_printed hex_digits c.args.bytes.now c.loop-byte.byte-index 0 _ _ _ c.loop-byte-test.true c.loop-byte.invariant
    (search rules)

pub returns-in_err-hand : goal.returns-in_err-hand
returns-in_err-hand g c = fails_out _ _ _ c.from_residual.result c.from_residual.ensures.0
    (one_cut hex_digits c.args.bytes.now c.loop-byte.byte-index 0 _ _ _ c.loop-byte-test.true c.loop-byte.invariant
    (search rules))
