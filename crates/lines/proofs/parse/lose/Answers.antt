use Rattle.lines.proofs.Spelling as spelling
use Rattle.lines.proofs.parse.lose.Goals as goal

pub returns : goal.returns
returns c = spelling.lose_words c.args.words c.in_ok-backup.backup c.in_ok-backup.ensures.sound
