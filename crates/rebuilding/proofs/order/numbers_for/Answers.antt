use Rattle.std.proofs.Common.{List, subst}
use Rattle.entry.specs.declared.entry.Entry.{Entry}
use Rattle.rebuilding.specs.Orders.{order_for, order_of}
use Rattle.rebuilding.specs.Rebuilds.{IsRebuildFault, count_of}
use Rattle.rebuilding.proofs.Wholes.{only_memory}
use Rattle.rebuilding.proofs.order.numbers_for.Goals.{After-unwritten, After-unwritten-in-Err}
use Rattle.rebuilding.proofs.order.numbers_for.Goals as goal

uncounted : (c : After-unwritten) → IsRebuildFault c.args.plan.now.segments c.args.will.now
    (order_for c.args.plan.now c.args.will.now c.args.order.now) c.unwritten.result
uncounted c =
    let qs = c.args.will.now in
    subst (λ (ss : List (List Entry)). IsRebuildFault ss qs (order_of c.args.order.now (count_of ss qs))
    c.unwritten.result) c.as_slice-segments.ensures c.unwritten.ensures

refused : (c : After-unwritten-in-Err) → IsRebuildFault c.args.plan.now.segments c.args.will.now
    (order_for c.args.plan.now c.args.will.now c.args.order.now) c.unwritten-in-Err.result
refused c =
    let qs = c.args.will.now in
    subst (λ (ss : List (List Entry)). IsRebuildFault ss qs (order_of c.args.order.now (count_of ss qs))
    c.unwritten-in-Err.result) c.as_slice-segments.ensures c.unwritten-in-Err.ensures

pub returns-in_default-clause-fault : goal.returns-in_default-clause-fault
returns-in_default-clause-fault c = uncounted (goal.at.returns-in_default-clause-fault c).After-unwritten

pub returns-in_default-clause-whole : goal.returns-in_default-clause-whole
returns-in_default-clause-whole c =
    λ can. only_memory c.args.plan.now.segments c.args.will.now
    (order_for c.args.plan.now c.args.will.now c.args.order.now) can c.unwritten.result
    (uncounted (goal.at.returns-in_default-clause-whole c).After-unwritten)

pub returns-in-Err-clause-fault : goal.returns-in-Err-clause-fault
returns-in-Err-clause-fault c = refused (goal.at.returns-in-Err-clause-fault c).After-unwritten-in-Err

pub returns-in-Err-clause-whole : goal.returns-in-Err-clause-whole
returns-in-Err-clause-whole c =
    λ can. only_memory c.args.plan.now.segments c.args.will.now
    (order_for c.args.plan.now c.args.will.now c.args.order.now) can c.unwritten-in-Err.result
    (refused (goal.at.returns-in-Err-clause-whole c).After-unwritten-in-Err)
