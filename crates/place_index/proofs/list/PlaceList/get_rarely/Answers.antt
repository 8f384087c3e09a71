use Rattle.std.proofs.Common.{List, get_or, sym, ap, ◌∙◌}
use Rattle.std.specs.Prelude.{Some}
use Rattle.entry.specs.View.{shown_key}
use Rattle.places.specs.declared.place.Held.{Held}
use Rattle.place_index.proofs.Slots.{slot_none, found_slot}
use Rattle.place_index.proofs.list.PlaceList.get_rarely.Goals as goal
use Rattle.place_index.specs.Steps.{ListValue}

pub returns-in_err-slot : goal.returns-in_err-slot
returns-in_err-slot g c = λ hash_of of all.
    let keys = g.R.Resolve.keys c.args.resolver.now in
    let k = shown_key c.args.key.now in
    let hash = c.args.hash in
    let hs = c.args.self.now.held in
    let none = sym c.in_err-slot.ensures in
    c.from_residual.ensures ∙ sym (slot_none hash_of keys k hash hs of all.told none)

pub returns : goal.returns
returns g c = λ hash_of of all.
    let keys = g.R.Resolve.keys c.args.resolver.now in
    let k = shown_key c.args.key.now in
    let hash = c.args.hash in
    let hs = c.args.self.now.held in
    let slot = c.in_ok-slot.slot in
    let here = ap (λ (v : ListValue). v.held) c.self.view_is in
    let some = sym c.in_ok-slot.ensures in
    ap (λ (h : Held). Some h.place) (c.index.ensures ∙ ap (λ (xs : List Held). get_or xs slot c.index.result.now) here)
    ∙ sym (found_slot hash_of keys k hash hs slot c.index.result.now some all)
