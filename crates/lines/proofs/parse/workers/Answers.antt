use Rattle.std.proofs.Common.{rules}
use Rattle.lines.proofs.Orders.{threads}
use Rattle.lines.proofs.parse.workers.Goals as goal

pub returns : goal.returns
returns c = threads c.args.words _ c.in_ok-workers.workers c.in_ok-workers.ensures.sound (search rules)
