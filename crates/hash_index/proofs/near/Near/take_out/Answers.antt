use Rattle.std.proofs.Common.{◌≡◌, ◌<◌, ◌≤◌, false, List, length, refl, sym, ap, subst, ◌∙◌, arith}
use Rattle.std.specs.List.{position_or_len}
use Rattle.places.specs.declared.place.Held.{Held}
use Rattle.places.specs.Lists.{holds_in, is_same, without}
use Rattle.place_index.proofs.TakingOut.{without_none}
use Rattle.hash_index.specs.Packing.{taken, unpacked}
use Rattle.hash_index.proofs.Taken.{has, lacks, leaves, no_place, not_free}
use Rattle.hash_index.proofs.near.Near.take_out.Goals as goal

pub returns-in_default-clause-had : goal.returns-in_default-clause-had
returns-in_default-clause-had c =
    let h = c.args.held in
    sym (no_place h c.in_default.ensures.other c.self.inside.slots c.show_valid.ensures)
    ∙ ap (λ (hs : List Held). holds_in hs h) c.self.view_is

pub returns-in_default-clause-taken : goal.returns-in_default-clause-taken
returns-in_default-clause-taken c =
    let h = c.args.held in
    let isnt = no_place h c.in_default.ensures.other c.self.inside.slots c.show_valid.ensures in
    sym (without_none h c.args.self.now (subst (λ (hs : List Held). holds_in hs h ≡ false) c.self.view_is isnt))

pub returns-then-slot-ge-SLOTS-clause-had : goal.returns-then-slot-ge-SLOTS-clause-had
returns-then-slot-ge-SLOTS-clause-had c =
    let h = c.args.held in
    let slots = c.self.inside.slots in
    let first = c.first_by_tag-slot.ensures.slot
    ∙ ap (λ (x : Held). position_or_len (is_same x) slots) c.in-Some.ensures.same in
    sym (lacks h slots c.first_by_tag-slot.result first
    (omega (arith, c.first_by_tag-slot.ensures.len, c.if-slot-ge-SLOTS.true)))
    ∙ ap (λ (hs : List Held). holds_in hs h) c.self.view_is

pub returns-then-slot-ge-SLOTS-clause-taken : goal.returns-then-slot-ge-SLOTS-clause-taken
returns-then-slot-ge-SLOTS-clause-taken c =
    let h = c.args.held in
    let slots = c.self.inside.slots in
    let first = c.first_by_tag-slot.ensures.slot
    ∙ ap (λ (x : Held). position_or_len (is_same x) slots) c.in-Some.ensures.same in
    let isnt = lacks h slots c.first_by_tag-slot.result first
    (omega (arith, c.first_by_tag-slot.ensures.len, c.if-slot-ge-SLOTS.true)) in
    sym (without_none h c.args.self.now (subst (λ (hs : List Held). holds_in hs h ≡ false) c.self.view_is isnt))

pub returns-clause-had : goal.returns-clause-had
returns-clause-had c =
    let h = c.args.held in
    let slots = c.self.inside.slots in
    let i = c.first_by_tag-slot.result in
    let first = c.first_by_tag-slot.ensures.slot
    ∙ ap (λ (x : Held). position_or_len (is_same x) slots) c.in-Some.ensures.same in
    let below : i < length slots = omega (arith, c.first_by_tag-slot.ensures.len, c.if-slot-ge-SLOTS.false) in
    let isnt = not_free h (subst (λ (x : Held). 512 ≤ x.hash) c.in-Some.ensures.same c.in-Some.ensures.hash) in
    sym (has h slots i first below isnt) ∙ ap (λ (hs : List Held). holds_in hs h) c.self.view_is

pub returns-clause-taken : goal.returns-clause-taken
returns-clause-taken c =
    let h = c.args.held in
    let slots = c.self.inside.slots in
    let i = c.first_by_tag-slot.result in
    let first = c.first_by_tag-slot.ensures.slot
    ∙ ap (λ (x : Held). position_or_len (is_same x) slots) c.in-Some.ensures.same in
    let below : i < length slots = omega (arith, c.first_by_tag-slot.ensures.len, c.if-slot-ge-SLOTS.false) in
    let isnt = not_free h (subst (λ (x : Held). 512 ≤ x.hash) c.in-Some.ensures.same c.in-Some.ensures.hash) in
    ap (λ (hs : List Held). taken hs) c.free.ensures
    ∙ leaves h slots i first below isnt (unpacked 0 0 0) refl
    ∙ ap (λ (hs : List Held). without h hs) c.self.view_is
