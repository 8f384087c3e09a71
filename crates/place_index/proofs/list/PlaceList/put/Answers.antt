use Rattle.std.proofs.Common.{List, sym, ap, ◌∙◌}
use Rattle.std.specs.List.{position}
use Rattle.places.specs.declared.place.Held.{Held}
use Rattle.place_index.proofs.Relocating.{slot_holds, slot_lacks, slot_relocates, relocated_none}
use Rattle.place_index.proofs.list.PlaceList.put.Goals as goal
use Rattle.places.specs.Lists.{holds_in, is_same, relocated_in}
use Rattle.place_index.specs.Steps.{ListValue}

pub returns-in-Some-clause-had : goal.returns-in-Some-clause-had
returns-in-Some-clause-had c =
    let list = c.deref.ensures.value ∙ ap (λ (v : ListValue). v.held) c.self.view_is in
    sym (slot_holds c.args.held c.deref.result.now c.in-Some.slot (sym c.in-Some.ensures))
    ∙ ap (λ (xs : List Held). holds_in xs c.args.held) list

pub returns-in-Some-clause-moved : goal.returns-in-Some-clause-moved
returns-in-Some-clause-moved c =
    let h = c.args.held in
    let here = ap (λ (v : ListValue). v.held) c.self.view_is in
    let items = c.self.inside.held.items in
    let some = sym (c.in-Some.ensures ∙ ap (λ (xs : List Held). position (is_same h) xs) c.deref.ensures.value) in
    slot_relocates h c.args.to items c.in-Some.slot c.index_mut.result.now some c.index_mut.ensures.value
    ∙ ap (λ (xs : List Held). relocated_in h c.args.to xs) here

pub returns-in-None-clause-had : goal.returns-in-None-clause-had
returns-in-None-clause-had c =
    let list = c.deref.ensures.value ∙ ap (λ (v : ListValue). v.held) c.self.view_is in
    sym (slot_lacks c.args.held c.deref.result.now (sym c.in-None.ensures))
    ∙ ap (λ (xs : List Held). holds_in xs c.args.held) list

pub returns-in-None-clause-moved : goal.returns-in-None-clause-moved
returns-in-None-clause-moved c =
    let h = c.args.held in
    let list = c.deref.ensures.value ∙ ap (λ (v : ListValue). v.held) c.self.view_is in
    let none = slot_lacks h c.deref.result.now (sym c.in-None.ensures) in
    sym (relocated_none h c.args.to c.args.self.now.held (ap (λ (xs : List Held). holds_in xs h) (sym list) ∙ none))
