use Rattle.std.proofs.Common.{arith}
use Rattle.take_journal.proofs.Versions.{empty_first, text_first, without}
use Rattle.take_journal.proofs.opening.is_of_version.Goals as goal

pub returns-in-None : goal.returns-in-None
returns-in-None c = without c.args.bytes.now c.in-None.ensures

pub returns-in-empty : goal.returns-in-empty
returns-in-empty c =
    empty_first c.args.bytes.now c.in-Some.text.now c.in-Some.field-0-1.now c.in-Some.ensures.0
    (omega (arith, c.in-empty.len_below))

pub returns-in-len1-up : goal.returns-in-len1-up
returns-in-len1-up c =
    text_first c.args.bytes.now c.in-Some.text.now c.in-Some.field-0-1.now c.in-Some.ensures.0
    (omega (arith, c.in-len1-up.len_at_least))
