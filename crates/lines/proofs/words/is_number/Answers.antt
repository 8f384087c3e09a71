use Rattle.std.proofs.Common.{rules, arith}
use Rattle.lines.proofs.NumberWords.{is_number}
use Rattle.lines.proofs.words.is_number.Goals as goal

pub returns : goal.returns
returns c =
    let is = is_number _ c.parse_number.result c.parse_number.ensures.sound
    (search (rules, arith)) c.parse_number.ensures.complete in
    search rules
