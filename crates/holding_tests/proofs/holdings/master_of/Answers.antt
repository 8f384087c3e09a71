use Rattle.std.proofs.Common.{ap}
use Rattle.replica.specs.Picture.{FleetState}
use Rattle.holding_tests.proofs.holdings.master_of.Goals as goal

pub new-requires-2-clause-none : goal.new-requires-2-clause-none
new-requires-2-clause-none c = λ b s. ap (λ (f : FleetState). f.picture b c.in_ok-config.config.master s)
    c.in-Ok.ensures.new

pub new-requires-2-clause-least : goal.new-requires-2-clause-least
new-requires-2-clause-least c = ap (λ (f : FleetState). f.least c.in_ok-config.config.master) c.in-Ok.ensures.new
