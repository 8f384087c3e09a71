use Rattle.lines.proofs.NumberLines as lines
use Rattle.lines.proofs.parse.clean.Goals as goal

pub returns-in-Some : goal.returns-in-Some
returns-in-Some c = lines.clean c.args.words _ c.in-Some.ensures.sound
