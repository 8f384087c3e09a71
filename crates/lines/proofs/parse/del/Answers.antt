use Rattle.std.proofs.Common.{arith}
use Rattle.lines.proofs.Spelling as spelling
use Rattle.lines.proofs.parse.del.Goals as goal

pub returns : goal.returns
returns c = spelling.del_words c.args.words c.in_ok-table.table c.in_ok-key.key.now _ c.in_ok-table.ensures.sound
    (omega arith) c.in_ok-key.ensures.sound
