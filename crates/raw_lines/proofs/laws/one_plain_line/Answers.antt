use Rattle.raw_lines.proofs.OneLine.{one_plain_line}
use Rattle.raw_lines.proofs.laws.one_plain_line.Goals as goal

pub returns : goal.returns
returns c = one_plain_line
