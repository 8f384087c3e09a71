use Rattle.log_laws.proofs.Runs.{next_goes_on}
use Rattle.log_laws.proofs.laws.ops_go_on.Goals as goal

pub returns : goal.returns
returns c = next_goes_on
