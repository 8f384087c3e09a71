use Rattle.embedded.proofs.Losing.{lost_alone}
use Rattle.embedded.proofs.laws.what_is_lost.Goals as goal

pub returns : goal.returns
returns c = lost_alone
