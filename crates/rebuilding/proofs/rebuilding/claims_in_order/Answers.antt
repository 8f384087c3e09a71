use Rattle.std.proofs.Common.{rules, ◌<◌, ◌++◌, length, map, subst, ap, sym, ◌∙◌}
use Rattle.std.specs.Prelude.{slice_index}
use Rattle.std.proofs.lemmas.List.{take_all, length-map}
use Rattle.division.specs.declared.group.Group.{Group}
use Rattle.division.specs.Groups.{grouped}
use Rattle.claims.specs.Claims.{claimed, claims_of}
use Rattle.rebuilding.specs.Rebuilds.{NamesEach}
use Rattle.rebuilding.proofs.Carried.{number_inside}
use Rattle.rebuilding.proofs.Ordered.{claims_named, claims_in_turn, named_more, all_named}
use Rattle.rebuilding.proofs.rebuilding.claims_in_order.Goals as goal

pub offset_bounds-groups-n : goal.offset_bounds-groups-n
offset_bounds-groups-n c =
    let lt : slice_index c.args.order.now c.loop-n.n-index < length c.args.groups.now =
    number_inside (length c.args.groups.now) c.loop-n.n-index c.args.order.now c.requires c.loop-n-test.true in
    search (rules, lt)

pub bounds-groups-n : goal.bounds-groups-n
bounds-groups-n c =
    number_inside (length c.args.groups.now) c.loop-n.n-index c.args.order.now c.requires c.loop-n-test.true

pub loop-n-preserved : goal.loop-n-preserved
loop-n-preserved c =
    named_more c.args.groups.now c.args.order.now c.loop-n.n-index c.index-groups-n.result
    (map claimed c.loop-n.claims.items) _ c.loop-n-test.true
    (number_inside (length c.args.groups.now) c.loop-n.n-index c.args.order.now c.requires c.loop-n-test.true)
    c.index-groups-n.is
    (c.in_ok-add_claims.ensures.ok
    ∙ ap (λ (g : Group). map claimed c.loop-n.claims.items ++ claims_of g.entries) (sym c.index-groups-n.is))
    c.loop-n.invariant

pub returns-clause-of : goal.returns-clause-of
returns-clause-of c =
    all_named (map grouped c.args.groups.now) c.args.order.now
    (subst (λ m. NamesEach m c.args.order.now) (sym (length-map c.args.groups.now grouped)) c.requires)
    (map claimed c.loop-n.claims.items)
    (c.loop-n.invariant ∙ ap (claims_named (map grouped c.args.groups.now))
    (take_all c.loop-n.n-index c.args.order.now c.loop-n-test.false))

pub returns-clause-turns : goal.returns-clause-turns
returns-clause-turns c =
    c.loop-n.invariant
    ∙ ap (claims_named (map grouped c.args.groups.now)) (take_all c.loop-n.n-index c.args.order.now c.loop-n-test.false)
    ∙ claims_in_turn (map grouped c.args.groups.now) c.args.order.now
