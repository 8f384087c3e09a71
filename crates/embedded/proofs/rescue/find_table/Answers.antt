use Rattle.std.proofs.Common.{ℕ, subst}
use Rattle.recovery.specs.Recovered.{IsSomeLoss, IsSomePrefix}
use Rattle.recovery.specs.replay.rebuilding.declared.order.GroupOrder.TheVariants.{Forward}
use Rattle.embedded.proofs.Losing.{no_loss}
use Rattle.embedded.proofs.rescue.find_table.Goals as goal

pub returns-in-Ok-recover-clause-found : goal.returns-in-Ok-recover-clause-found
returns-in-Ok-recover-clause-found c = record {
  inventory = c.in-Ok.inventory;
  held = c.in-Ok.ensures.shown;
  prefix = subst (λ (n : ℕ). IsSomePrefix c.in-Ok.inventory n c.args.master c.in-Ok-recover.table) c.least.ensures
      c.in-Ok-recover.ensures.ok;
}

pub returns-in-Err-clause-none : goal.returns-in-Err-clause-none
returns-in-Err-clause-none c = no_loss _ _ _ _ c.of_will.ensures

pub returns-clause-none : goal.returns-clause-none
returns-clause-none c =
    let will = c.in-Ok-whole_will.will in
    record {
      inventory = c.in-Ok.inventory;
      held = c.in-Ok.ensures.shown;
      will = will;
      covers = c.in-Ok-whole_will.ensures;
      loss = subst (λ (n : ℕ). IsSomeLoss c.in-Ok.inventory n c.args.master will Forward c.in-Err-recover.fault)
          c.least.ensures c.in-Err-recover.ensures.refused;
    }
