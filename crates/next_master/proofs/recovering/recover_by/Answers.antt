use Rattle.std.proofs.Common.{IfOk, IfErr, subst}
use Rattle.cluster.specs.recovery.Recovered.{IsRebuiltFrom, IsRefusedFrom, IsSomeLoss}
use Rattle.cluster.specs.replay.rebuilding.declared.order.GroupOrder.{GroupOrder}
use Rattle.next_master.proofs.recovering.recover_by.Goals as goal

pub returns-in-Threads-clause-refused : goal.returns-in-Threads-clause-refused
returns-in-Threads-clause-refused g c =
    subst (λ (o : GroupOrder). IfErr c.recover_threads.result
    (IsSomeLoss c.args.inventory.now c.args.least c.args.master c.args.will.now o))
    c.groups_in-groups.ensures c.recover_threads.ensures.refused

pub returns : goal.returns
returns g c =
    let named = c.groups_in-groups.ensures in
    let given = c.recover.ensures in
    record {
      ok = given.ok;
      refused = subst (λ (o : GroupOrder). IfErr c.recover.result
          (IsSomeLoss c.args.inventory.now c.args.least c.args.master c.args.will.now o)) named given.refused;
      rebuilt = subst (λ (o : GroupOrder). IfOk c.recover.result
          (IsRebuiltFrom c.args.inventory.now c.args.least c.args.master c.args.will.now o)) named given.rebuilt;
      fault = subst (λ (o : GroupOrder). IfErr c.recover.result
          (IsRefusedFrom c.args.inventory.now c.args.least c.args.master c.args.will.now o)) named given.fault;
    }
