use Rattle.std.proofs.Common.{refl, subst, List}
use Rattle.tally.specs.declared.tallies.Tally.{Tally}
use Rattle.tally.specs.Rows.{IsPlaceOf, less}
use Rattle.tally.proofs.Edits.{changed, kept, rises, others, none_changed, none_kept, none_found}
use Rattle.tally.proofs.tallies.Tallies.shrink.Goals as goal

pub invariant_of-self : goal.invariant_of-self
invariant_of-self c =
    let place = subst (λ (xs : List Tally). IsPlaceOf xs c.args.segment c.in-Some.at) c.as_slice.ensures.value
    c.in-Some.ensures.found in
    rises c.self.inside.rows.items c.args.segment c.in-Some.at c.index.result.now c.self.invariant place c.index.ensures
    (less c.args.live) c.less.result c.less.ensures refl

pub returns-in-Some-clause-shrunk : goal.returns-in-Some-clause-shrunk
returns-in-Some-clause-shrunk c = rw (← c.self.view_is) (
    let place = subst (λ (xs : List Tally). IsPlaceOf xs c.args.segment c.in-Some.at) c.as_slice.ensures.value
    c.in-Some.ensures.found in
    changed c.self.inside.rows.items c.args.segment c.in-Some.at c.index.result.now c.self.invariant place
    c.index.ensures
    (less c.args.live) c.less.result c.less.ensures)

pub returns-in-Some-clause-kept : goal.returns-in-Some-clause-kept
returns-in-Some-clause-kept c = rw (← c.self.view_is) (
    let place = subst (λ (xs : List Tally). IsPlaceOf xs c.args.segment c.in-Some.at) c.as_slice.ensures.value
    c.in-Some.ensures.found in
    kept c.self.inside.rows.items c.args.segment c.in-Some.at c.index.result.now c.self.invariant place c.index.ensures
    (less c.args.live) c.less.result c.less.ensures)

pub returns-in-Some-clause-others : goal.returns-in-Some-clause-others
returns-in-Some-clause-others c = rw (← c.self.view_is) (
    let place = subst (λ (xs : List Tally). IsPlaceOf xs c.args.segment c.in-Some.at) c.as_slice.ensures.value
    c.in-Some.ensures.found in
    others c.self.inside.rows.items c.args.segment c.in-Some.at c.less.result place)

pub returns-in_default-clause-shrunk : goal.returns-in_default-clause-shrunk
returns-in_default-clause-shrunk c = rw (← c.self.view_is) (
    none_changed c.args.segment (less c.args.live) c.self.inside.rows.items
    (none_found c.args.segment c.as_slice.result.now c.self.inside.rows.items c.place_near.result
    c.as_slice.ensures.value c.place_near.ensures.absent c.in_default.not-Some))

pub returns-in_default-clause-kept : goal.returns-in_default-clause-kept
returns-in_default-clause-kept c = rw (← c.self.view_is) (
    none_kept c.args.segment (less c.args.live) c.self.inside.rows.items
    (none_found c.args.segment c.as_slice.result.now c.self.inside.rows.items c.place_near.result
    c.as_slice.ensures.value c.place_near.ensures.absent c.in_default.not-Some))
