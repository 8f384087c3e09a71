use Rattle.std.proofs.Common.{ap, refl, ◌∙◌}
use Rattle.backup.specs.State.{fleet_state}
use Rattle.replica.specs.Picture.{FleetState}
use Rattle.recovery.specs.master.master_state.Data.{fresh_data}
use Rattle.embedded.proofs.store.Store.open.Goals as goal

pub new-requires-2-clause-none : goal.new-requires-2-clause-none
new-requires-2-clause-none c = λ b s.
    ap (λ (f : FleetState). f.picture b c.in-Ok.config.master s) c.in-Ok-new.ensures.new

pub new-requires-2-clause-least : goal.new-requires-2-clause-least
new-requires-2-clause-least c = ap (λ (f : FleetState). f.least c.in-Ok.config.master) c.in-Ok-new.ensures.new

pub returns-in-Ok-new-2-clause-opened : goal.returns-in-Ok-new-2-clause-opened
returns-in-Ok-new-2-clause-opened c = record {
  options = refl;
  master = refl;
  used = refl;
  first = c.in-Ok-new-2.master;
  life = refl;
  fresh = c.in-Ok-new-2.ensures.made.0 ∙ ap fresh_data c.in-Ok.ensures;
  fleet = ap fleet_state c.in-Ok-new-2.ensures.made.1 ∙ c.in-Ok-new.ensures.new;
  valid = c.in-Ok-new-2.ensures.valid;
}
