use Rattle.std.proofs.Common.{refl, subst, sym, List}
use Rattle.tally.specs.declared.tallies.Tally.{Tally}
use Rattle.tally.specs.Rows.{AreRising, IsPlaceOf, IsChangedAt, IsKeptAt, OthersAreKept, more}
use Rattle.tally.proofs.Listing.{remove_rising}
use Rattle.tally.proofs.Edits.{changed, kept, rises, others, gone, gone_kept, gone_others}
use Rattle.tally.proofs.Edits.{none_changed, none_kept, none_found}
use Rattle.tally.proofs.tallies.Tallies.grow.Goals as goal

pub returns-in_default-clause-grown : goal.returns-in_default-clause-grown
returns-in_default-clause-grown c = rw (← c.self.view_is) (
    none_changed c.args.segment (more c.args.live c.args.stones) c.self.inside.rows.items
    (none_found c.args.segment c.as_slice.result.now c.self.inside.rows.items c.place_of.result
    c.as_slice.ensures.value c.place_of.ensures.absent c.in_default.not-Some))

pub returns-in_default-clause-kept : goal.returns-in_default-clause-kept
returns-in_default-clause-kept c = rw (← c.self.view_is) (
    none_kept c.args.segment (more c.args.live c.args.stones) c.self.inside.rows.items
    (none_found c.args.segment c.as_slice.result.now c.self.inside.rows.items c.place_of.result
    c.as_slice.ensures.value c.place_of.ensures.absent c.in_default.not-Some))

-- ---- the sums fit

pub invariant_of-self : goal.invariant_of-self
invariant_of-self c =
    let place = subst (λ (xs : List Tally). IsPlaceOf xs c.args.segment c.in-Some.at) c.as_slice.ensures.value
    c.in-Some.ensures.found in
    rises c.self.inside.rows.items c.args.segment c.in-Some.at c.index.result.now c.self.invariant place c.index.ensures
    (more c.args.live c.args.stones) c.in-Some-more.row c.in-Some-more.ensures.some refl

pub returns-in-Some-more-clause-grown : goal.returns-in-Some-more-clause-grown
returns-in-Some-more-clause-grown c = rw (← c.self.view_is) (
    let place = subst (λ (xs : List Tally). IsPlaceOf xs c.args.segment c.in-Some.at) c.as_slice.ensures.value
    c.in-Some.ensures.found in
    changed c.self.inside.rows.items c.args.segment c.in-Some.at c.index.result.now c.self.invariant place
    c.index.ensures
    (more c.args.live c.args.stones) c.in-Some-more.row c.in-Some-more.ensures.some)

pub returns-in-Some-more-clause-kept : goal.returns-in-Some-more-clause-kept
returns-in-Some-more-clause-kept c = rw (← c.self.view_is) (
    let place = subst (λ (xs : List Tally). IsPlaceOf xs c.args.segment c.in-Some.at) c.as_slice.ensures.value
    c.in-Some.ensures.found in
    kept c.self.inside.rows.items c.args.segment c.in-Some.at c.index.result.now c.self.invariant place c.index.ensures
    (more c.args.live c.args.stones) c.in-Some-more.row c.in-Some-more.ensures.some)

pub returns-in-Some-more-clause-others : goal.returns-in-Some-more-clause-others
returns-in-Some-more-clause-others c = rw (← c.self.view_is) (
    let place = subst (λ (xs : List Tally). IsPlaceOf xs c.args.segment c.in-Some.at) c.as_slice.ensures.value
    c.in-Some.ensures.found in
    others c.self.inside.rows.items c.args.segment c.in-Some.at c.in-Some-more.row place)

-- ---- a sum is too large

pub invariant_of-self-in-None : goal.invariant_of-self-in-None
invariant_of-self-in-None c =
    subst (λ (xs : List Tally). AreRising xs) (sym c.remove-row.ensures.items)
    (remove_rising c.self.inside.rows.items c.in-Some.at c.self.invariant)

pub returns-in-None-clause-grown : goal.returns-in-None-clause-grown
returns-in-None-clause-grown c = rw (← c.self.view_is) (
    let place = subst (λ (xs : List Tally). IsPlaceOf xs c.args.segment c.in-Some.at) c.as_slice.ensures.value
    c.in-Some.ensures.found in
    let change = more c.args.live c.args.stones in
    subst (λ (xs : List Tally). IsChangedAt c.args.segment change c.self.inside.rows.items xs)
    (sym c.remove-row.ensures.items)
    (gone c.self.inside.rows.items c.args.segment c.in-Some.at c.index.result.now c.self.invariant place c.index.ensures
    change))

pub returns-in-None-clause-kept : goal.returns-in-None-clause-kept
returns-in-None-clause-kept c = rw (← c.self.view_is) (
    let place = subst (λ (xs : List Tally). IsPlaceOf xs c.args.segment c.in-Some.at) c.as_slice.ensures.value
    c.in-Some.ensures.found in
    let change = more c.args.live c.args.stones in
    subst (λ (xs : List Tally). IsKeptAt c.args.segment change c.self.inside.rows.items xs)
    (sym c.remove-row.ensures.items)
    (gone_kept c.self.inside.rows.items c.args.segment c.in-Some.at c.index.result.now c.self.invariant place
    c.index.ensures change (c.in-None.ensures.none refl)))

pub returns-in-None-clause-others : goal.returns-in-None-clause-others
returns-in-None-clause-others c = rw (← c.self.view_is) (
    let place = subst (λ (xs : List Tally). IsPlaceOf xs c.args.segment c.in-Some.at) c.as_slice.ensures.value
    c.in-Some.ensures.found in
    subst (λ (xs : List Tally). OthersAreKept c.args.segment c.self.inside.rows.items xs)
    (sym c.remove-row.ensures.items) (gone_others c.self.inside.rows.items c.args.segment c.in-Some.at place))
