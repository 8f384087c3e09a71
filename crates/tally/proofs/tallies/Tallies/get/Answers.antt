use Rattle.std.proofs.Common.{subst, List}
use Rattle.tally.specs.declared.tallies.Tally.{Tally}
use Rattle.tally.specs.Rows.{IsPlaceOf, HasNo}
use Rattle.tally.proofs.Edits.{among, own}
use Rattle.tally.proofs.tallies.Tallies.get.Goals as goal

pub returns-in-Some-clause-some : goal.returns-in-Some-clause-some
returns-in-Some-clause-some c = rw (← c.self.view_is) (
    let place = subst (λ (xs : List Tally). IsPlaceOf xs c.args.segment c.in-Some.at) c.as_slice.ensures.value
    c.in-Some.ensures.found in
    let rows = c.self.inside.rows.items in
    let w = c.index.result.now in (
      among rows c.args.segment c.in-Some.at w c.self.invariant place c.index.ensures,
      own rows c.args.segment c.in-Some.at w c.self.invariant place c.index.ensures,
    ))

pub returns-in-None-clause-none : goal.returns-in-None-clause-none
returns-in-None-clause-none c = rw (← c.self.view_is) (λ _.
    subst (λ (xs : List Tally). HasNo c.args.segment xs) c.as_slice.ensures.value c.in-None.ensures.absent)
