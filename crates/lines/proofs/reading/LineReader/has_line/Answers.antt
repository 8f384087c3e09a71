use Rattle.lines.proofs.Taking.{shown_first}
use Rattle.lines.proofs.reading.LineReader.has_line.Goals as goal

pub returns-in-Ok-clause-at_hand : goal.returns-in-Ok-clause-at_hand
returns-in-Ok-clause-at_hand g c = λ is.
    shown_first c.args.is_raw (g.R.Read.remaining c.args.reader.now) c.in-Ok.shown.now c.in-Ok.ensures.front
    (c.has_end.ensures is)
