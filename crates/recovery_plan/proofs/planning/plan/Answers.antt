use Rattle.std.proofs.Common.{List, subst}
use Rattle.std.specs.Prelude.{IfErr}
use Rattle.replica.specs.declared.holding.Holding.{Holding}
use Rattle.recovery_plan.specs.Planned.{IsPlanFault, NamesLoss}
use Rattle.recovery_plan.proofs.Losses.{losses, later-faults}
use Rattle.recovery_plan.proofs.planning.plan.Goals as goal

pub returns-clause-fault : goal.returns-clause-fault
returns-clause-fault c =
    subst (λ (hs : List Holding). IfErr c.plan_from.result (IsPlanFault hs c.args.least c.args.master))
    c.as_slice-holdings.ensures
    (later-faults c.as_slice-holdings.result.now c.args.least c.args.master c.plan_from.result
    (c.plan_from.ensures.fault c.args.least c.in_ok-head.ensures.usable))

pub returns-clause-loss : goal.returns-clause-loss
returns-clause-loss c =
    subst (λ (hs : List Holding). IfErr c.plan_from.result (NamesLoss hs c.args.least c.args.master))
    c.as_slice-holdings.ensures
    (losses c.as_slice-holdings.result.now c.args.least c.args.master c.plan_from.result
    (c.plan_from.ensures.fault c.args.least c.in_ok-head.ensures.usable))
