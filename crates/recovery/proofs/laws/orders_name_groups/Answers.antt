use Rattle.recovery.proofs.Counting.{orders_name}
use Rattle.recovery.proofs.laws.orders_name_groups.Goals as goal

pub returns : goal.returns
returns c = orders_name
