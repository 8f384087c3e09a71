use Rattle.lines.proofs.Taking.{whole_line}
use Rattle.lines.proofs.reading.has_end.Goals as goal

pub returns : goal.returns
returns c =
    let front = c.front_of_line-is_ended.result in
    whole_line c.args.is_raw c.line_limit.result front.0 c.start.result front.2 c.args.shown.now front.1
    c.line_limit.ensures c.start.ensures c.front_of_line-is_ended.ensures
