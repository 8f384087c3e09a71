use Rattle.std.proofs.Common.{List, map, ap, ◌∙◌}
use Rattle.entry.specs.declared.entry.Entry.{Entry}
use Rattle.claims.specs.Bags.{segments_bag}
use Rattle.claims.specs.Claims.{claimed, claims_of}
use Rattle.claims.specs.Rebuilt.{IsRebuilt, IsRefusal}
use Rattle.entry.specs.Meaning.{IsClean, among}
use Rattle.claims.specs.Settled.{AreOf, AreRebuilt, AreCleanClaims, AreRefused}
use Rattle.rebuilding.proofs.Carried.{claims-of, if_ok, if_err, on_ok}
use Rattle.rebuilding.proofs.plain.rebuild_plain.Goals.{After-rebuilt_from}
use Rattle.rebuilding.proofs.plain.rebuild_plain.Goals as goal

-- the claims are those of the log
found : (c : After-rebuilt_from)
    → AreOf (segments_bag c.args.plan.now.segments) (map claimed c.in_ok-claims.claims.items)
found c =
    claims-of (segments_bag c.args.plan.now.segments) (map claimed c.in_ok-claims.claims.items)
    (c.in_ok-claims.ensures ∙ ap (λ (ss : List (List Entry)). claims_of (segments_bag ss)) c.as_slice.ensures)

pub returns-clause-ok : goal.returns-clause-ok
returns-clause-ok c =
    let all = (goal.at.returns-clause-ok c).After-rebuilt_from in
    let cs = map claimed c.in_ok-claims.claims.items in
    if_ok (AreRebuilt cs c.args.plan.now.safe) (IsRebuilt c.args.plan.now.segments c.args.plan.now.safe) _
    (λ r h. h c.args.plan.now.segments (found all)) c.rebuilt_from.ensures.ok

pub returns-clause-clean : goal.returns-clause-clean
returns-clause-clean c =
    let all = (goal.at.returns-clause-clean c).After-rebuilt_from in
    let cs = map claimed c.in_ok-claims.claims.items in
    on_ok (AreCleanClaims cs) (IsClean (among (segments_bag c.args.plan.now.segments))) _
    (λ h. h c.args.plan.now.segments (found all)) c.rebuilt_from.ensures.clean

pub returns-clause-err : goal.returns-clause-err
returns-clause-err c =
    let all = (goal.at.returns-clause-err c).After-rebuilt_from in
    let cs = map claimed c.in_ok-claims.claims.items in
    if_err (AreRefused cs) (IsRefusal c.args.plan.now.segments) _
    (λ f h. h.each c.args.plan.now.segments (found all)) c.rebuilt_from.ensures.err
