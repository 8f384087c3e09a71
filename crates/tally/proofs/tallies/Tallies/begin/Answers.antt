use Rattle.std.proofs.Common.{◌<◌, refl, sym, subst, List}
use Rattle.std.specs.List.{AllByRecursion}
use Rattle.tally.specs.declared.tallies.Tally.{Tally}
use Rattle.tally.specs.Rows.{AreRising, of_nothing, WithOne, AllAreKept}
use Rattle.tally.proofs.Listing.{push_keeps, push_members, push_rising}
use Rattle.tally.proofs.tallies.Tallies.begin.Goals as goal

pub invariant_of-self : goal.invariant_of-self
invariant_of-self c =
    let rows = c.self.inside.rows.items in
    let below = subst (λ (xs : List Tally). AllByRecursion (λ (row : Tally). row.segment < c.args.segment) xs)
    c.as_slice.ensures.value (c.if-is_above_all.ensures refl) in
    subst (λ (xs : List Tally). AreRising xs) (sym c.push_reserved.ensures.items)
    (push_rising rows (of_nothing c.args.segment) c.self.invariant below)

pub returns-then-is_above_all-clause-begun : goal.returns-then-is_above_all-clause-begun
returns-then-is_above_all-clause-begun c = rw (← c.self.view_is) (
    subst (λ (xs : List Tally). WithOne (of_nothing c.args.segment) c.self.inside.rows.items xs)
    (sym c.push_reserved.ensures.items)
    (push_members c.self.inside.rows.items (of_nothing c.args.segment)))

pub returns-then-is_above_all-clause-kept : goal.returns-then-is_above_all-clause-kept
returns-then-is_above_all-clause-kept c = rw (← c.self.view_is) (
    subst (λ (xs : List Tally). AllAreKept c.self.inside.rows.items xs) (sym c.push_reserved.ensures.items)
    (push_keeps c.self.inside.rows.items (of_nothing c.args.segment)))
