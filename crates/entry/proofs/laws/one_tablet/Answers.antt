use Rattle.entry.proofs.Disjoint.{disjoint}
use Rattle.entry.proofs.laws.one_tablet.Goals as goal

pub returns : goal.returns
returns c = disjoint
