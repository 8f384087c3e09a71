use Rattle.std.proofs.Common.{List, sym, ap, ◌∙◌}
use Rattle.std.specs.List.{position}
use Rattle.places.specs.declared.place.Held.{Held}
use Rattle.places.specs.Lists.{holds_in, is_same, without}
use Rattle.place_index.proofs.Relocating.{slot_holds, slot_lacks}
use Rattle.place_index.proofs.TakingOut.{slot_without, without_none}
use Rattle.chain_index.proofs.front.Front.take_out.Goals as goal

pub returns-in-Some-clause-had : goal.returns-in-Some-clause-had
returns-in-Some-clause-had c =
    sym (slot_holds c.args.held c.deref.result.now c.in-Some.slot (sym c.in-Some.ensures))
    ∙ ap (λ (xs : List Held). holds_in xs c.args.held) (c.deref.ensures.0 ∙ c.self.view_is)

pub returns-in-Some-clause-taken : goal.returns-in-Some-clause-taken
returns-in-Some-clause-taken c =
    let h = c.args.held in
    let items = c.self.inside.held.items in
    let some = sym (c.in-Some.ensures ∙ ap (λ (xs : List Held). position (is_same h) xs) c.deref.ensures.0) in
    c.remove.ensures.items ∙ slot_without h items c.in-Some.slot some
    ∙ ap (λ (xs : List Held). without h xs) c.self.view_is

pub returns-in-None-clause-had : goal.returns-in-None-clause-had
returns-in-None-clause-had c =
    sym (slot_lacks c.args.held c.deref.result.now (sym c.in-None.ensures))
    ∙ ap (λ (xs : List Held). holds_in xs c.args.held) (c.deref.ensures.0 ∙ c.self.view_is)

pub returns-in-None-clause-taken : goal.returns-in-None-clause-taken
returns-in-None-clause-taken c =
    let h = c.args.held in
    let list = c.deref.ensures.0 ∙ c.self.view_is in
    let none = slot_lacks h c.deref.result.now (sym c.in-None.ensures) in
    sym (without_none h c.args.self.now (ap (λ (xs : List Held). holds_in xs h) (sym list) ∙ none))
