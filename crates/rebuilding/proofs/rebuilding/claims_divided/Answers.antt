use Rattle.std.proofs.Common.{rules, ◌∙◌, List, map, length, ap, subst, sym}
use Rattle.division.specs.Groups.{Grouped, grouped, bag_of}
use Rattle.claims.specs.Bags.{segments_bag}
use Rattle.claims.specs.Claims.{claimed, claims_of}
use Rattle.rebuilding.specs.Rebuilds.{IsRebuildFault, IsShortOfMemory}
use Rattle.rebuilding.specs.Turns.{entries_in_turn}
use Rattle.claims.specs.Settled.{AreOf}
use Rattle.std.proofs.lemmas.List.{length-map}
use Rattle.rebuilding.proofs.AllGroups.{groups_fault, claims_same, all_covered, names_groups}
use Rattle.rebuilding.proofs.Twins.{short_named}
use Rattle.rebuilding.proofs.rebuilding.claims_divided.Goals as goal

pub returns-in_err-groups-clause-fault : goal.returns-in_err-groups-clause-fault
returns-in_err-groups-clause-fault c =
    let f = c.in_err-groups.field-0.0 in
    let refused : IsRebuildFault c.args.segments.now c.args.will.now c.args.order.now f =
    groups_fault c.args.will.now c.args.segments.now c.args.order.now c.in_ok-check_order.ensures.order
    c.in_ok-check_order.ensures.ids f c.in_err-groups.ensures.fault in
    search (rules, refused)

pub returns-in_err-claims_in_order-clause-fault : goal.returns-in_err-claims_in_order-clause-fault
returns-in_err-claims_in_order-clause-fault c =
    let short : IsShortOfMemory c.args.segments.now c.args.will.now c.args.order.now =
    short_named c.args.segments.now c.args.will.now c.args.order.now c.in_ok-check_order.ensures.order
    c.in_ok-check_order.ensures.ids in
    search (rules, short)

pub claims_in_order-requires : goal.claims_in_order-requires
claims_in_order-requires c =
    let gs = ap (map grouped) c.as_slice.ensures.value ∙ c.in_ok-groups.ensures.ok in
    names_groups c.args.will.now c.args.segments.now c.args.order.now (length c.as_slice.result.now)
    (sym (length-map c.as_slice.result.now grouped) ∙ ap length gs) c.in_ok-check_order.ensures.order

pub returns-clause-ok : goal.returns-clause-ok
returns-clause-ok c =
    let qs = c.args.will.now in
    let segments = c.args.segments.now in
    let gs = ap (map grouped) c.as_slice.ensures.value ∙ c.in_ok-groups.ensures.ok in
    claims_same qs segments (map claimed c.in_ok-claims_in_order.field-0.items) c.partitions.ensures.valid
    c.in_ok-groups.ensures.covered
    (subst (λ (hs : List Grouped). AreOf (bag_of hs) (map claimed c.in_ok-claims_in_order.field-0.items)) gs
    c.in_ok-claims_in_order.ensures.of)

pub returns-clause-covered : goal.returns-clause-covered
returns-clause-covered c =
    all_covered c.args.will.now c.args.segments.now c.partitions.ensures.valid c.in_ok-groups.ensures.covered

pub returns-clause-turns : goal.returns-clause-turns
returns-clause-turns c =
    let gs = ap (map grouped) c.as_slice.ensures.value ∙ c.in_ok-groups.ensures.ok in
    c.in_ok-claims_in_order.ensures.turns
    ∙ ap (λ (hs : List Grouped). claims_of (segments_bag (entries_in_turn hs c.args.order.now))) gs
