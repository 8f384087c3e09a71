use Rattle.std.proofs.Common.{List, get_or, sym, ap, subst, ◌∙◌}
use Rattle.std.specs.Prelude.{Option, Some}
use Rattle.places.specs.declared.place.Held.{Held}
use Rattle.places.specs.declared.place.Place.{Place}
use Rattle.place_index.proofs.Slots.{first_none, first_some}
use Rattle.place_index.proofs.list.PlaceList.candidate_rarely.Goals as goal
use Rattle.places.specs.Lists.{IsCandidateIn}
use Rattle.place_index.specs.Steps.{ListValue}

pub returns-in_err-slot : goal.returns-in_err-slot
returns-in_err-slot c = λ hash_of keys k of all.
    let hash = c.args.hash in
    let hs = c.args.self.now.held in
    let none = sym c.in_err-slot.ensures in
    subst (λ (o : Option Place). IsCandidateIn keys k hs o) (sym c.from_residual.ensures)
    (first_none hash_of keys k hash hs of all.told none)

pub returns : goal.returns
returns c = λ hash_of keys k of all there.
    let hash = c.args.hash in
    let hs = c.args.self.now.held in
    let slot = c.in_ok-slot.slot in
    let here = ap (λ (v : ListValue). v.held) c.self.view_is in
    let some = sym c.in_ok-slot.ensures in
    let at = c.index.ensures ∙ ap (λ (xs : List Held). get_or xs slot c.index.result.now) here in
    let place = ap (λ (h : Held). h.place) at in
    first_some hash_of keys k hash hs slot c.index.result.now some all (ap keys (sym place) ∙ there)
    ∙ ap (λ (p : Place). Some p) (sym place)
