use Rattle.std.proofs.Common.{List, get_or, sym, ap, ◌∙◌}
use Rattle.std.specs.Prelude.{Some, None}
use Rattle.entry.specs.View.{shown_key}
use Rattle.places.specs.declared.place.Held.{Held}
use Rattle.place_index.proofs.Slots.{along, slot_none, found_slot}
use Rattle.chain_index.proofs.front.Front.get.Goals as goal

pub returns-in_err-slot : goal.returns-in_err-slot
returns-in_err-slot g c = λ hash_of of all.
    let keys = g.R.Resolve.keys c.args.resolver.now in
    let k = shown_key c.args.key.now in
    let hash = c.args.hash in
    let hs = c.args.self.now in
    let none = along keys k hash c.deref.result.now hs None c.in_err-slot.ensures
    (c.deref.ensures.0 ∙ c.self.view_is) in
    c.from_residual.ensures ∙ sym (slot_none hash_of keys k hash hs of all.told none)

pub returns : goal.returns
returns g c = λ hash_of of all.
    let keys = g.R.Resolve.keys c.args.resolver.now in
    let k = shown_key c.args.key.now in
    let hash = c.args.hash in
    let hs = c.args.self.now in
    let slot = c.in_ok-slot.slot in
    let d : Held = record { hash = 0; place = record { segment = 0; at = 0 } } in
    let some = along keys k hash c.deref.result.now hs (Some slot) c.in_ok-slot.ensures
    (c.deref.ensures.0 ∙ c.self.view_is) in
    ap (λ (xs : List Held). Some (get_or xs slot d).place) (c.deref-2.ensures.0 ∙ c.self.view_is)
    ∙ sym (found_slot hash_of keys k hash hs slot d some all)
