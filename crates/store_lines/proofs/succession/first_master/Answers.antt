use Rattle.std.proofs.Common.{ap}
use Rattle.replica.specs.Picture.{FleetState}
use Rattle.store_lines.proofs.succession.first_master.Goals as goal

pub new-requires-2-clause-none : goal.new-requires-2-clause-none
new-requires-2-clause-none c = λ b s. ap (λ (f : FleetState). f.picture b c.args.config.master s)
    c.in_ok-fleet.ensures.new

pub new-requires-2-clause-least : goal.new-requires-2-clause-least
new-requires-2-clause-least c = ap (λ (f : FleetState). f.least c.args.config.master) c.in_ok-fleet.ensures.new
