use Rattle.adoptable.proofs.Living.{drilled_fit}
use Rattle.adoptable.proofs.laws.drilled_fit.Goals as goal

pub returns : goal.returns
returns c start = drilled_fit _
