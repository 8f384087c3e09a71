use Rattle.versioned_map.proofs.Units.{states_pushed}
use Rattle.versioned_map.proofs.laws.states_go_on.Goals as goal

pub returns : goal.returns
returns c = states_pushed
