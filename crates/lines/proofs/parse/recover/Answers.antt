use Rattle.lines.proofs.Orders.{no_order}
use Rattle.lines.proofs.parse.recover.Goals as goal

pub returns-in-None : goal.returns-in-None
returns-in-None c = no_order c.args.words c.in-None.ensures
