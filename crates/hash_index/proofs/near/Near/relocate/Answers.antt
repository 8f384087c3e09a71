use Rattle.std.proofs.Common.{◌≡◌, ◌<◌, ◌≤◌, false, List, length, set, sym, ap, subst, ◌∙◌, arith}
use Rattle.std.specs.List.{position_or_len}
use Rattle.places.specs.declared.place.Held.{Held}
use Rattle.places.specs.Lists.{holds_in, is_same, relocated_in}
use Rattle.place_index.proofs.Relocating.{relocated_none}
use Rattle.hash_index.specs.Packing.{taken}
use Rattle.hash_index.proofs.Taken.{has, lacks, moves, same_at, no_place, not_free}
use Rattle.hash_index.proofs.near.Near.relocate.Goals as goal

pub returns-in_default-clause-had : goal.returns-in_default-clause-had
returns-in_default-clause-had c =
    let h = c.args.held in
    sym (no_place h c.in_default.ensures.other c.self.inside.slots c.show_valid.ensures)
    ∙ ap (λ (hs : List Held). holds_in hs h) c.self.view_is

pub returns-in_default-clause-moved : goal.returns-in_default-clause-moved
returns-in_default-clause-moved c =
    let h = c.args.held in
    let to = c.args.to in
    let isnt = no_place h c.in_default.ensures.other c.self.inside.slots c.show_valid.ensures in
    sym (relocated_none h to c.args.self.now (subst (λ (hs : List Held). holds_in hs h ≡ false) c.self.view_is isnt))

pub returns-then-slot-ge-SLOTS-clause-had : goal.returns-then-slot-ge-SLOTS-clause-had
returns-then-slot-ge-SLOTS-clause-had c =
    let h = c.args.held in
    let slots = c.self.inside.slots in
    let first = c.first_by_tag-slot.ensures.slot
    ∙ ap (λ (x : Held). position_or_len (is_same x) slots) c.in-Some.ensures.same in
    sym (lacks h slots c.first_by_tag-slot.result first
    (omega (arith, c.first_by_tag-slot.ensures.len, c.if-slot-ge-SLOTS.true)))
    ∙ ap (λ (hs : List Held). holds_in hs h) c.self.view_is

pub returns-then-slot-ge-SLOTS-clause-moved : goal.returns-then-slot-ge-SLOTS-clause-moved
returns-then-slot-ge-SLOTS-clause-moved c =
    let h = c.args.held in
    let to = c.args.to in
    let slots = c.self.inside.slots in
    let first = c.first_by_tag-slot.ensures.slot
    ∙ ap (λ (x : Held). position_or_len (is_same x) slots) c.in-Some.ensures.same in
    let isnt = lacks h slots c.first_by_tag-slot.result first
    (omega (arith, c.first_by_tag-slot.ensures.len, c.if-slot-ge-SLOTS.true)) in
    sym (relocated_none h to c.args.self.now (subst (λ (hs : List Held). holds_in hs h ≡ false) c.self.view_is isnt))

pub go_to-requires-clause-same : goal.go_to-requires-clause-same
go_to-requires-clause-same c =
    let slots = c.self.inside.slots in
    same_at c.in-Some.packed slots c.first_by_tag-slot.result c.first_by_tag-slot.ensures.slot
    (omega (arith, c.first_by_tag-slot.ensures.len, c.if-slot-ge-SLOTS.false)) c.in-Some.packed

pub returns-clause-had : goal.returns-clause-had
returns-clause-had c =
    let h = c.args.held in
    let slots = c.self.inside.slots in
    let i = c.first_by_tag-slot.result in
    let first = c.first_by_tag-slot.ensures.slot
    ∙ ap (λ (x : Held). position_or_len (is_same x) slots) c.in-Some.ensures.same in
    let below : i < length slots = omega (arith, c.first_by_tag-slot.ensures.len, c.if-slot-ge-SLOTS.false) in
    let isnt = not_free h (subst (λ (x : Held). 512 ≤ x.hash) c.in-Some.ensures.same c.in-Some.ensures.hash) in
    sym (has h slots i first below isnt) ∙ ap (λ (hs : List Held). holds_in hs h) c.self.view_is

pub returns-clause-moved : goal.returns-clause-moved
returns-clause-moved c =
    let h = c.args.held in
    let to = c.args.to in
    let slots = c.self.inside.slots in
    let i = c.first_by_tag-slot.result in
    let first = c.first_by_tag-slot.ensures.slot
    ∙ ap (λ (x : Held). position_or_len (is_same x) slots) c.in-Some.ensures.same in
    let below : i < length slots = omega (arith, c.first_by_tag-slot.ensures.len, c.if-slot-ge-SLOTS.false) in
    let isnt = not_free h (subst (λ (x : Held). 512 ≤ x.hash) c.in-Some.ensures.same c.in-Some.ensures.hash) in
    let put = ap (λ (x : Held). set slots i (record { hash = x.hash; place = to })) c.in-Some.ensures.same in
    ap (λ (hs : List Held). taken hs) (c.go_to.ensures ∙ put)
    ∙ moves h slots i first below isnt to
    ∙ ap (λ (hs : List Held). relocated_in h to hs) c.self.view_is
