use Rattle.std.proofs.Common.{rules}
use Rattle.lines.proofs.Spelling as spelling
use Rattle.lines.proofs.parse.seglets.Goals as goal

pub returns : goal.returns
returns c = spelling.seglets_words c.args.words _ c.in_ok-seglets.seglets c.in_ok-seglets.ensures.sound (search rules)
