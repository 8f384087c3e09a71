use Rattle.std.proofs.Common.{ap, ◌∙◌}
use Rattle.backup.specs.declared.fleet.MemoryFleet.{MemoryFleet}
use Rattle.backup.specs.State.{fleet_state}
use Rattle.master_tests.proofs.lives.first_master.Goals as goal

pub returns-in-Ok-clause-newest : goal.returns-in-Ok-clause-newest
returns-in-Ok-clause-newest c = record {
  held = λ b m s above. ap (λ (f : MemoryFleet). (fleet_state f).picture b m s) c.in-Ok.ensures.made.1
      ∙ c.in_ok-fleet.ensures.none b m s;
  least = λ m above. ap (λ (f : MemoryFleet). (fleet_state f).least m) c.in-Ok.ensures.made.1
      ∙ c.in_ok-fleet.ensures.least m;
}
