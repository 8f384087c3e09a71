use Rattle.std.proofs.Common.{rules, ◌≡◌, List, subst}
use Rattle.std.specs.Prelude.{IfErr}
use Rattle.entry.specs.declared.entry.Entry.{Entry}
use Rattle.partitions.specs.declared.setback.Setback.{Setback}
use Rattle.partitions.specs.declared.setback.Setback.TheVariants as setback
use Rattle.partitions.specs.Setbacks.{IsSetback}
use Rattle.claims.specs.declared.fault.ReplayFault.TheVariants as fault
use Rattle.rebuilding.specs.Rebuilds.{CanBeRebuilt, IsRebuildFault, IsShortOfMemory}
use Rattle.rebuilding.proofs.Carried.{if_err}
use Rattle.rebuilding.proofs.Twins.{short_named}
use Rattle.rebuilding.proofs.Wholes.{only_memory}
use Rattle.rebuild_threads.proofs.threads.rebuild_on.Given as given
use Rattle.rebuild_threads.proofs.threads.rebuild_on.Goals.{After-from_residual}
use Rattle.rebuild_threads.proofs.threads.rebuild_on.Goals as goal

refused_early : (g : given.Over) (c : After-from_residual g)
    → IfErr c.from_residual.result (IsRebuildFault c.args.plan.now.segments c.args.will.now c.args.order.now)
refused_early g c =
    let f = c.in_err-count.field-0.0 in
    let refused : IsRebuildFault c.args.plan.now.segments c.args.will.now c.args.order.now f =
    subst (λ (ss : List (List Entry)). IsRebuildFault ss c.args.will.now c.args.order.now f) c.as_slice.ensures
    c.in_err-count.ensures.fault in
    search (rules, refused)

pub returns-in_err-count-clause-fault : goal.returns-in_err-count-clause-fault
returns-in_err-count-clause-fault g c =
    refused_early g (goal.at.returns-in_err-count-clause-fault g c).After-from_residual

pub returns-in_err-count-clause-whole : goal.returns-in_err-count-clause-whole
returns-in_err-count-clause-whole g c =
    let segments = c.args.plan.now.segments in
    let qs = c.args.will.now in
    let order = c.args.order.now in
    if_err (IsRebuildFault segments qs order) (λ f. CanBeRebuilt segments qs order → f ≡ fault.NoMemory) _
    (λ f h can. only_memory segments qs order can f h)
    (refused_early g (goal.at.returns-in_err-count-clause-whole g c).After-from_residual)

pub returns-in-Err-NoMemory-clause-fault : goal.returns-in-Err-NoMemory-clause-fault
returns-in-Err-NoMemory-clause-fault g c =
    let qs = c.args.will.now in
    let order = c.args.order.now in
    subst (λ (ss : List (List Entry)). IsShortOfMemory ss qs order) c.as_slice.ensures
    (short_named c.as_slice.result.now qs order c.in_ok-count.ensures.order c.in_ok-count.ensures.ids)

pub returns-in-Err-Clash-clause-fault : goal.returns-in-Err-Clash-clause-fault
returns-in-Err-Clash-clause-fault g c =
    subst (λ (f : Setback). IsSetback c.args.will.now c.args.plan.now.segments f) c.in-Err-Clash.field-0-is
    c.in-Err-Clash.ensures.setback

pub returns-in-Err-Clash-clause-whole : goal.returns-in-Err-Clash-clause-whole
returns-in-Err-Clash-clause-whole g c =
    let unclean : IsSetback c.args.will.now c.args.plan.now.segments setback.Clash =
    subst (λ (f : Setback). IsSetback c.args.will.now c.args.plan.now.segments f) c.in-Err-Clash.field-0-is
    c.in-Err-Clash.ensures.setback
    in λ can. absurd (unclean can.clean)
