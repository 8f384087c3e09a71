use Rattle.std.proofs.Common.{List, get_or, sym, ap, subst, ◌∙◌}
use Rattle.std.specs.Prelude.{Option, Some, None}
use Rattle.places.specs.declared.place.Held.{Held}
use Rattle.places.specs.declared.place.Place.{Place}
use Rattle.places.specs.Lists.{IsCandidateIn}
use Rattle.place_index.proofs.Slots.{first_along, first_none, first_some}
use Rattle.chain_index.proofs.front.Front.candidate.Goals as goal

pub returns-in_err-slot : goal.returns-in_err-slot
returns-in_err-slot c = λ hash_of keys k of all.
    let hash = c.args.hash in
    let hs = c.args.self.now in
    let none = first_along hash c.deref.result.now hs None c.in_err-slot.ensures
    (c.deref.ensures.0 ∙ c.self.view_is) in
    subst (λ (o : Option Place). IsCandidateIn keys k hs o) (sym c.from_residual.ensures)
    (first_none hash_of keys k hash hs of all.told none)

pub returns : goal.returns
returns c = λ hash_of keys k of all there.
    let hash = c.args.hash in
    let hs = c.args.self.now in
    let slot = c.in_ok-slot.slot in
    let d : Held = record { hash = 0; place = record { segment = 0; at = 0 } } in
    let some = first_along hash c.deref.result.now hs (Some slot) c.in_ok-slot.ensures
    (c.deref.ensures.0 ∙ c.self.view_is) in
    let place = ap (λ (xs : List Held). (get_or xs slot d).place) (c.deref-2.ensures.0 ∙ c.self.view_is) in
    first_some hash_of keys k hash hs slot d some all (ap keys (sym place) ∙ there)
    ∙ ap (λ (p : Place). Some p) (sym place)
