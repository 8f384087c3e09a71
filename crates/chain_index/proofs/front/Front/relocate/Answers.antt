use Rattle.std.proofs.Common.{List, length, get_or, refl, sym, ap, ◌∙◌}
use Rattle.std.specs.Prelude.{slice_set}
use Rattle.std.specs.List.{position, refill}
use Rattle.places.specs.declared.place.Held.{Held}
use Rattle.places.specs.Lists.{holds_in, is_same, relocated_in}
use Rattle.chain_index.proofs.Fronts.{set_back}
use Rattle.place_index.proofs.Relocating.{slot_holds, slot_lacks, slot_relocated, relocated_none}
use Rattle.chain_index.proofs.front.Front.relocate.Goals as goal

pub returns-in-Some-clause-had : goal.returns-in-Some-clause-had
returns-in-Some-clause-had c =
    sym (slot_holds c.args.held c.deref.result.now c.in-Some.slot (sym c.in-Some.ensures))
    ∙ ap (λ (xs : List Held). holds_in xs c.args.held) (c.deref.ensures.0 ∙ c.self.view_is)

pub returns-in-Some-clause-moved : goal.returns-in-Some-clause-moved
returns-in-Some-clause-moved c =
    let h = c.args.held in
    let to = c.args.to in
    let items = c.self.inside.held.items in
    let slot = c.in-Some.slot in
    let d : Held = record { hash = 0; place = record { segment = 0; at = 0 } } in
    let some = sym (c.in-Some.ensures ∙ ap (λ (xs : List Held). position (is_same h) xs) c.deref.ensures.0) in
    ap (λ (xs : List Held). refill (length items) items (slice_set xs slot
    (record { hash = (get_or xs slot d).hash; place = to })))
    c.deref_mut.ensures.value
    ∙ set_back items items slot (record { hash = (get_or items slot d).hash; place = to }) refl
    ∙ slot_relocated h to items slot d some
    ∙ ap (λ (xs : List Held). relocated_in h to xs) c.self.view_is

pub returns-in-None-clause-had : goal.returns-in-None-clause-had
returns-in-None-clause-had c =
    sym (slot_lacks c.args.held c.deref.result.now (sym c.in-None.ensures))
    ∙ ap (λ (xs : List Held). holds_in xs c.args.held) (c.deref.ensures.0 ∙ c.self.view_is)

pub returns-in-None-clause-moved : goal.returns-in-None-clause-moved
returns-in-None-clause-moved c =
    let h = c.args.held in
    let list = c.deref.ensures.0 ∙ c.self.view_is in
    let none = slot_lacks h c.deref.result.now (sym c.in-None.ensures) in
    sym (relocated_none h c.args.to c.args.self.now (ap (λ (xs : List Held). holds_in xs h) (sym list) ∙ none))
