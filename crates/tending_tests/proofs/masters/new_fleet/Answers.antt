use Rattle.std.proofs.Common.{ap}
use Rattle.replica.specs.Picture.{FleetState}
use Rattle.tending_tests.proofs.masters.new_fleet.Goals as goal

pub returns-in-Ok-clause-none : goal.returns-in-Ok-clause-none
returns-in-Ok-clause-none c = λ b m s. ap (λ (f : FleetState). f.picture b m s) c.in-Ok.ensures.new

pub returns-in-Ok-clause-least : goal.returns-in-Ok-clause-least
returns-in-Ok-clause-least c = λ m. ap (λ (f : FleetState). f.least m) c.in-Ok.ensures.new
