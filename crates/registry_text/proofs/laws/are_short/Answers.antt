use Rattle.registry_text.proofs.Short.{are_short}
use Rattle.registry_text.proofs.laws.are_short.Goals as goal

pub returns : goal.returns
returns c = are_short
