use Rattle.std.proofs.Common.{rules, ◌≡◌, List, map, subst}
use Rattle.std.specs.Prelude.{IfErr}
use Rattle.entry.specs.declared.entry.Entry.{Entry}
use Rattle.entry.specs.Meaning.{IsClean, among}
use Rattle.claims.specs.declared.fault.ReplayFault.TheVariants as fault
use Rattle.claims.specs.Bags.{segments_bag}
use Rattle.claims.specs.Claims.{claimed, claims_of}
use Rattle.claims.specs.Rebuilt.{IsRebuilt}
use Rattle.rebuilding.specs.Rebuilds.{IsRebuildFault, IsShortOfMemory, CanBeRebuilt}
use Rattle.rebuilding.specs.Turns.{replayed}
use Rattle.claims.specs.Settled.{AreOf, AreRebuilt, AreCleanClaims, AreRefused}
use Rattle.rebuilding.proofs.Carried.{if_ok, if_err, on_ok}
use Rattle.rebuilding.proofs.Ordered.{are_claims}
use Rattle.rebuilding.proofs.Twins.{short_named}
use Rattle.rebuilding.proofs.Wholes.{only_memory, refusal_fault}
use Rattle.rebuilding.proofs.rebuilding.rebuild.Goals.{After-from_residual, After-rebuilt_from}
use Rattle.rebuilding.proofs.rebuilding.rebuild.Goals as goal

refused_early : (c : After-from_residual)
    → IfErr c.from_residual.result (IsRebuildFault c.args.plan.now.segments c.args.will.now c.args.order.now)
refused_early c =
    let f = c.in_err-claims.field-0.0 in
    let refused : IsRebuildFault c.args.plan.now.segments c.args.will.now c.args.order.now f =
    subst (λ (ss : List (List Entry)). IsRebuildFault ss c.args.will.now c.args.order.now f) c.as_slice.ensures
    c.in_err-claims.ensures.fault in
    search (rules, refused)

pub returns-in_err-claims-clause-fault : goal.returns-in_err-claims-clause-fault
returns-in_err-claims-clause-fault c = refused_early (goal.at.returns-in_err-claims-clause-fault c).After-from_residual

pub returns-in_err-claims-clause-whole : goal.returns-in_err-claims-clause-whole
returns-in_err-claims-clause-whole c =
    let segments = c.args.plan.now.segments in
    let qs = c.args.will.now in
    let order = c.args.order.now in
    if_err (IsRebuildFault segments qs order) (λ f. CanBeRebuilt segments qs order → f ≡ fault.NoMemory) _
    (λ f h can. only_memory segments qs order can f h)
    (refused_early (goal.at.returns-in_err-claims-clause-whole c).After-from_residual)

-- the claims are those of the log
found : (c : After-rebuilt_from)
    → AreOf (segments_bag c.args.plan.now.segments) (map claimed c.in_ok-claims.claims.items)
found c =
    subst (λ (ss : List (List Entry)). AreOf (segments_bag ss) (map claimed c.in_ok-claims.claims.items))
    c.as_slice.ensures c.in_ok-claims.ensures.ok

-- what is known of the order and the ids
short : (c : After-rebuilt_from)
    → IsShortOfMemory c.args.plan.now.segments c.args.will.now c.args.order.now
short c =
    subst (λ (ss : List (List Entry)). IsShortOfMemory ss c.args.will.now c.args.order.now) c.as_slice.ensures
    (short_named c.as_slice.result.now c.args.will.now c.args.order.now c.in_ok-claims.ensures.order
    c.in_ok-claims.ensures.ids)

refused_late : (c : After-rebuilt_from)
    → IfErr c.rebuilt_from.result (IsRebuildFault c.args.plan.now.segments c.args.will.now c.args.order.now)
refused_late c =
    let segments = c.args.plan.now.segments in
    let qs = c.args.will.now in
    let order = c.args.order.now in
    if_err (AreRefused (map claimed c.in_ok-claims.claims.items)) (IsRebuildFault segments qs order) _
    (λ f h. refusal_fault segments qs order (short c) f (h.each segments (found c))) c.rebuilt_from.ensures.err

pub returns-clause-ok : goal.returns-clause-ok
returns-clause-ok c =
    let all = (goal.at.returns-clause-ok c).After-rebuilt_from in
    let cs = map claimed c.in_ok-claims.claims.items in
    if_ok (AreRebuilt cs c.args.plan.now.safe) (IsRebuilt c.args.plan.now.segments c.args.plan.now.safe) _
    (λ r h. h c.args.plan.now.segments (found all)) c.rebuilt_from.ensures.ok

pub returns-clause-turns : goal.returns-clause-turns
returns-clause-turns c =
    let cs = map claimed c.in_ok-claims.claims.items in
    let taken = replayed c.args.plan.now.segments c.args.will.now c.args.order.now in
    let here : cs ≡ claims_of (segments_bag taken) =
    subst (λ (ss : List (List Entry)). cs ≡ claims_of (segments_bag (replayed ss c.args.will.now c.args.order.now)))
    c.as_slice.ensures c.in_ok-claims.ensures.turns in
    if_ok (AreRebuilt cs c.args.plan.now.safe) (IsRebuilt taken c.args.plan.now.safe) _
    (λ r h. h taken (are_claims (segments_bag taken) cs here)) c.rebuilt_from.ensures.ok

pub returns-clause-clean : goal.returns-clause-clean
returns-clause-clean c =
    let all = (goal.at.returns-clause-clean c).After-rebuilt_from in
    let cs = map claimed c.in_ok-claims.claims.items in
    on_ok (AreCleanClaims cs) (IsClean (among (segments_bag c.args.plan.now.segments))) _
    (λ h. h c.args.plan.now.segments (found all)) c.rebuilt_from.ensures.clean

pub returns-clause-fault : goal.returns-clause-fault
returns-clause-fault c = refused_late (goal.at.returns-clause-fault c).After-rebuilt_from

pub returns-clause-whole : goal.returns-clause-whole
returns-clause-whole c =
    let segments = c.args.plan.now.segments in
    let qs = c.args.will.now in
    let order = c.args.order.now in
    if_err (IsRebuildFault segments qs order) (λ f. CanBeRebuilt segments qs order → f ≡ fault.NoMemory) _
    (λ f h can. only_memory segments qs order can f h)
    (refused_late (goal.at.returns-clause-whole c).After-rebuilt_from)
