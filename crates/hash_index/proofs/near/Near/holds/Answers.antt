use Rattle.std.proofs.Common.{◌≤◌, List, sym, ap, subst, ◌∙◌}
use Rattle.places.specs.declared.place.Held.{Held}
use Rattle.places.specs.Lists.{holds_in, is_same}
use Rattle.std.specs.List.{position_or_len}
use Rattle.hash_index.proofs.Taken.{found_same, no_place}
use Rattle.hash_index.proofs.near.Near.holds.Goals as goal

pub returns-in-Some : goal.returns-in-Some
returns-in-Some c =
    let h = c.args.held in
    let slots = c.self.inside.slots in
    let i = c.first_same.result in
    let first = c.first_same.ensures.slot
    ∙ ap (λ (x : Held). position_or_len (is_same x) slots) c.in-Some.ensures.same in
    found_same h slots i first c.first_same.ensures.len (subst (λ (x : Held). 512 ≤ x.hash) c.in-Some.ensures.same
    c.in-Some.ensures.hash)
    ∙ ap (λ (hs : List Held). holds_in hs h) c.self.view_is

pub returns-in-None : goal.returns-in-None
returns-in-None c =
    let h = c.args.held in
    let slots = c.self.inside.slots in
    sym (no_place h c.in-None.ensures.other slots c.show_valid.ensures)
    ∙ ap (λ (hs : List Held). holds_in hs h) c.self.view_is
