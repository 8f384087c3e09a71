use Rattle.std.proofs.Common.{rules, ℕ, List, subst}
use Rattle.std.specs.Prelude.{IfErr, OnOk}
use Rattle.entry.specs.declared.entry.Entry.{Entry}
use Rattle.entry.specs.Meaning.{IsClean, among}
use Rattle.tablet_will.specs.declared.part.Part.{Part}
use Rattle.division.specs.Division.{AreCovered}
use Rattle.claims.specs.Bags.{segments_bag}
use Rattle.claims.specs.Rebuilt.{IsRebuilt}
use Rattle.rebuilding.specs.Turns.{replayed}
use Rattle.partitions.specs.Setbacks.{IsSetback}
use Rattle.rebuilding.proofs.Carried.{if_ok}
use Rattle.rebuilding.proofs.Turned.{turned}
use Rattle.rebuild_threads.proofs.threads.by_workers.Goals as goal

pub returns-clause-clean : goal.returns-clause-clean
returns-clause-clean g c =
    subst (λ (ss : List (List Entry)). OnOk c.join_all.result (IsClean (among (segments_bag ss)))) c.requires.segments
    c.join_all.ensures.clean

pub returns-clause-turns : goal.returns-clause-turns
returns-clause-turns g c =
    let segments = c.args.plan.now.segments in
    let qs = c.args.will.now in
    let order = c.args.order.now in
    let covered : AreCovered qs (segments_bag segments) =
    subst (λ (ps : List Part). AreCovered ps (segments_bag segments)) c.requires.parts
    (subst (λ (ss : List (List Entry)). AreCovered g.D.Division.parts (segments_bag ss)) c.requires.segments
    c.in_ok-places.ensures.covered) in
    if_ok (IsRebuilt g.D.Division.segments g.D.Division.safe)
    (IsRebuilt (replayed segments qs order) c.args.plan.now.safe)
    c.join_all.result
    (λ r h. turned qs segments order c.partitions.ensures.valid covered c.requires.order c.args.plan.now.safe r
    (subst (λ (n : ℕ). IsRebuilt segments n r) c.requires.safe
    (subst (λ (ss : List (List Entry)). IsRebuilt ss g.D.Division.safe r) c.requires.segments h)))
    c.join_all.ensures.ok

pub returns-in_err-places-clause-setback : goal.returns-in_err-places-clause-setback
returns-in_err-places-clause-setback g c =
    let f = c.in_err-places.field-0.0 in
    let why : IsSetback c.args.will.now c.args.plan.now.segments f =
    subst (λ (qs : List Part). IsSetback qs c.args.plan.now.segments f) c.requires.parts
    (subst (λ (ss : List (List Entry)). IsSetback g.D.Division.parts ss f) c.requires.segments
    c.in_err-places.ensures.setback) in
    search (rules, why)

pub returns-clause-setback : goal.returns-clause-setback
returns-clause-setback g c =
    subst (λ (qs : List Part). IfErr c.join_all.result (IsSetback qs c.args.plan.now.segments)) c.requires.parts
    (subst (λ (ss : List (List Entry)). IfErr c.join_all.result (IsSetback g.D.Division.parts ss)) c.requires.segments
    c.join_all.ensures.setback)
