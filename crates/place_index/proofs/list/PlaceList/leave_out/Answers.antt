use Rattle.std.proofs.Common.{List, sym, ap, ◌∙◌}
use Rattle.std.specs.List.{position}
use Rattle.places.specs.declared.place.Held.{Held}
use Rattle.place_index.proofs.Relocating.{slot_holds, slot_lacks}
use Rattle.place_index.proofs.TakingOut.{slot_without, without_none}
use Rattle.place_index.proofs.list.PlaceList.leave_out.Goals as goal
use Rattle.places.specs.Lists.{holds_in, is_same}
use Rattle.place_index.specs.Steps.{ListValue}

pub returns-in-Some-clause-had : goal.returns-in-Some-clause-had
returns-in-Some-clause-had c =
    let list = c.deref.ensures.value ∙ ap (λ (v : ListValue). v.held) c.self.view_is in
    sym (slot_holds c.args.held c.deref.result.now c.in-Some.slot (sym c.in-Some.ensures))
    ∙ ap (λ (xs : List Held). holds_in xs c.args.held) list

pub returns-in-Some-clause-taken : goal.returns-in-Some-clause-taken
returns-in-Some-clause-taken c =
    let h = c.args.held in
    let list = c.deref.ensures.value ∙ ap (λ (v : ListValue). v.held) c.self.view_is in
    let some = sym (c.in-Some.ensures ∙ ap (λ (xs : List Held). position (is_same h) xs) list) in
    c.cut.ensures.held ∙ slot_without h c.args.self.now.held c.in-Some.slot some

pub returns-in-None-clause-had : goal.returns-in-None-clause-had
returns-in-None-clause-had c =
    let list = c.deref.ensures.value ∙ ap (λ (v : ListValue). v.held) c.self.view_is in
    sym (slot_lacks c.args.held c.deref.result.now (sym c.in-None.ensures))
    ∙ ap (λ (xs : List Held). holds_in xs c.args.held) list

pub returns-in-None-clause-taken : goal.returns-in-None-clause-taken
returns-in-None-clause-taken c =
    let h = c.args.held in
    let list = c.deref.ensures.value ∙ ap (λ (v : ListValue). v.held) c.self.view_is in
    let none = slot_lacks h c.deref.result.now (sym c.in-None.ensures) in
    sym (without_none h c.args.self.now.held (ap (λ (xs : List Held). holds_in xs h) (sym list) ∙ none))
