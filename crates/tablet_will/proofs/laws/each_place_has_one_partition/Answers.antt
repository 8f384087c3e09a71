use Rattle.tablet_will.specs.Rule.{starts_of}
use Rattle.tablet_will.proofs.Starting.{started}
use Rattle.tablet_will.proofs.Dividing.{divides}
use Rattle.tablet_will.proofs.laws.each_place_has_one_partition.Goals as goal

pub returns : goal.returns
returns c = λ ts ss mb mo tablets fit. divides ts (starts_of mb mo ss) tablets (started ts ss mb mo tablets fit)
