use Rattle.lines.proofs.OneLine.{one_line}
use Rattle.lines.proofs.laws.one_line.Goals as goal

pub returns : goal.returns
returns c = one_line
