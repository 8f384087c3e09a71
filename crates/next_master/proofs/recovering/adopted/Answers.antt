use Rattle.std.proofs.Common.{refl, sym, ap}
use Rattle.std.specs.Prelude.{Some}
use Rattle.backup.specs.State.{fleet_state}
use Rattle.replica.specs.Picture.{FleetState}
use Rattle.cluster.specs.Served.{refusal_answer}
use Rattle.cluster.proofs.Steps.{unspent_answer}
use Rattle.next_master.proofs.recovering.adopted.Goals as goal

pub returns-in-Spent : goal.returns-in-Spent
returns-in-Spent c =
    let e = c.in-Err in
    record {
      why = e.refusal;
      left = fleet_state e.left;
      declines = e.ensures.refused;
      on = e.ensures.left;
      spent = e.ensures.spent;
      told = ap refusal_answer (sym c.in-Spent.is);
      down = (refl, ap (λ (f : FleetState). Some f) c.limit.ensures.limited);
    }

pub returns-in_default : goal.returns-in_default
returns-in_default c =
    let e = c.in-Err in
    record {
      why = e.refusal;
      left = fleet_state e.left;
      declines = e.ensures.refused;
      on = e.ensures.left;
      spent = e.ensures.spent;
      told = sym (unspent_answer e.refusal c.in_default.not-Spent);
      down = (refl, refl);
    }
