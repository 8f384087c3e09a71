use Rattle.std.proofs.Common.{refl, subst}
use Rattle.backup.specs.State.{fleet_state}
use Rattle.recovery.specs.master.master_state.declared.config.Config.{Config}
use Rattle.recovery.specs.replay.Adopting.{IsAdopted}
use Rattle.embedded.proofs.Living.{same_on}
use Rattle.embedded.proofs.Losing.{no_loss}
use Rattle.embedded.proofs.life.Life.recover.Goals as goal

pub returns-in-Err : goal.returns-in-Err
returns-in-Err c =
    rw c.in-Down.is ((c.in-Down.fleet, refl, 0, same_on 0 (fleet_state c.in-Down.fleet)), c.in-Err.ensures.none)

pub returns-in-Err-next_config : goal.returns-in-Err-next_config
returns-in-Err-next_config c = rw c.in-Down.is (
  (c.in-Down.fleet, refl, 0, same_on 0 (fleet_state c.in-Down.fleet)),
  no_loss _ _ _ _ c.in-Err-next_config.ensures.refused,
)

pub returns-in-Ok-adopt : goal.returns-in-Ok-adopt
returns-in-Ok-adopt c =
    let a = c.in-Ok-adopt.ensures c.in-Down.fleet refl in
    let begins = c.in-Ok-next_config.ensures.config in
    rw c.in-Down.is (record {
      table = c.in-Ok.table;
      found = c.in-Ok.ensures.found;
      above = begins.above;
      next = a.0;
      up = a.1;
      adopted = subst (λ (k : Config). IsAdopted k c.in-Ok.table a.0.knows) begins.same a.2;
      valid = a.3;
    })

pub returns : goal.returns
returns c =
    let a = c.in-Err-adopt.ensures c.in-Down.fleet refl in
    rw c.in-Down.is ((a.0, a.1, c.in-Ok-next_config.config.master, a.2), tt)
