use Rattle.std.proofs.Common.{◌≡◌, refl, subst, sym, ap₂, is_ok, List}
use Rattle.tally.specs.declared.tallies.Tally.{Tally}
use Rattle.tally.specs.Rows.{AreRising, HasNo, IsPlaceOf, IsPlaceFor, WithOne, OthersAreKept, exact}
use Rattle.tally.proofs.Edits.{others, with_same, put_one, put_rises, inserted_one, inserted_kept, inserted_rises}
use Rattle.tally.proofs.tallies.Tallies.put.Goals as goal

pub invariant_of-self : goal.invariant_of-self
invariant_of-self c =
    let place = subst (λ (xs : List Tally). IsPlaceOf xs c.args.segment c.in-Some.at) c.as_slice.ensures.value
    c.in-Some.ensures.found in
    put_rises c.self.inside.rows.items c.args.segment c.in-Some.at
    (exact c.args.segment c.in-Ok-Ok.live c.in-Ok-Ok.stones) c.self.invariant place refl

pub returns-in-Some-clause-kept : goal.returns-in-Some-clause-kept
returns-in-Some-clause-kept c = rw (← c.self.view_is) (
    let place = subst (λ (xs : List Tally). IsPlaceOf xs c.args.segment c.in-Some.at) c.as_slice.ensures.value
    c.in-Some.ensures.found in
    others c.self.inside.rows.items c.args.segment c.in-Some.at
    (exact c.args.segment c.in-Ok-Ok.live c.in-Ok-Ok.stones) place)

pub returns-in-Some-clause-put : goal.returns-in-Some-clause-put
returns-in-Some-clause-put c = rw (← c.self.view_is) (
    let place = subst (λ (xs : List Tally). IsPlaceOf xs c.args.segment c.in-Some.at) c.as_slice.ensures.value
    c.in-Some.ensures.found in
    let same : exact c.args.segment c.in-Ok-Ok.live c.in-Ok-Ok.stones ≡ exact c.args.segment c.args.live c.args.stones =
    ap₂ (exact c.args.segment) c.in-Ok-Ok.ensures.1 c.in-Ok-Ok.ensures'.1 in
    with_same (exact c.args.segment c.in-Ok-Ok.live c.in-Ok-Ok.stones) (exact c.args.segment c.args.live c.args.stones)
    c.self.inside.rows.items _ same
    (put_one c.self.inside.rows.items c.args.segment c.in-Some.at
    (exact c.args.segment c.in-Ok-Ok.live c.in-Ok-Ok.stones) c.self.invariant place))

-- ---- a new one

pub invariant_of-self-in-None : goal.invariant_of-self-in-None
invariant_of-self-in-None c =
    let rows = c.self.inside.rows.items in
    let one = exact c.args.segment c.in-Ok-Ok.live c.in-Ok-Ok.stones in
    let place = subst (λ (xs : List Tally). IsPlaceFor xs c.args.segment c.place_for-at.result)
    c.as_slice-in-None.ensures.value c.place_for-at.ensures in
    let none = subst (λ (xs : List Tally). HasNo c.args.segment xs) c.as_slice.ensures.value c.in-None.ensures.absent in
    subst (λ (xs : List Tally). AreRising xs) (sym c.insert.ensures.items)
    (inserted_rises (is_ok c.insert.result) rows c.args.segment c.place_for-at.result one c.self.invariant place none
    refl)

pub returns-in-None-clause-put : goal.returns-in-None-clause-put
returns-in-None-clause-put c = rw (← c.self.view_is) (
    let rows = c.self.inside.rows.items in
    let one = exact c.args.segment c.in-Ok-Ok.live c.in-Ok-Ok.stones in
    let place = subst (λ (xs : List Tally). IsPlaceFor xs c.args.segment c.place_for-at.result)
    c.as_slice-in-None.ensures.value c.place_for-at.ensures in
    let same : exact c.args.segment c.in-Ok-Ok.live c.in-Ok-Ok.stones ≡ exact c.args.segment c.args.live c.args.stones =
    ap₂ (exact c.args.segment) c.in-Ok-Ok.ensures.1 c.in-Ok-Ok.ensures'.1 in
    subst (λ (xs : List Tally). WithOne (exact c.args.segment c.args.live c.args.stones) rows xs)
    (sym c.insert.ensures.items)
    (with_same one (exact c.args.segment c.args.live c.args.stones) rows _ same
    (inserted_one (is_ok c.insert.result) rows c.args.segment c.place_for-at.result one place)))

pub returns-in-None-clause-kept : goal.returns-in-None-clause-kept
returns-in-None-clause-kept c = rw (← c.self.view_is) (
    let rows = c.self.inside.rows.items in
    let one = exact c.args.segment c.in-Ok-Ok.live c.in-Ok-Ok.stones in
    subst (λ (xs : List Tally). OthersAreKept c.args.segment rows xs) (sym c.insert.ensures.items)
    (inserted_kept (is_ok c.insert.result) rows c.args.segment c.place_for-at.result one))
