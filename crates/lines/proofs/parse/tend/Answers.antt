use Rattle.std.proofs.Common.{rules}
use Rattle.lines.proofs.Spelling as spelling
use Rattle.lines.proofs.parse.tend.Goals as goal

pub returns : goal.returns
returns c = spelling.tend_words c.args.words _ c.in_ok-steps.steps c.in_ok-steps.ensures.sound (search rules)
