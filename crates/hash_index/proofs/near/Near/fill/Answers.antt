use Rattle.std.proofs.Common.{◌<◌, ◌≤◌, List, [], ◌∷◌, ◌++◌, length, set, sym, ap, subst, ◌∙◌, arith}
use Rattle.places.specs.declared.place.Held.{Held}
use Rattle.place_index.specs.Steps.{BringsNoHash, IsShuffled}
use Rattle.hash_index.specs.Packing.{taken, is_free}
use Rattle.hash_index.proofs.Taken.{fills, fills_brings, not_free, passes_at}
use Rattle.hash_index.proofs.near.Near.fill.Goals as goal

pub returns-clause-filled : goal.returns-clause-filled
returns-clause-filled c = λ so.
    let h = c.args.held in
    let slots = c.self.inside.slots in
    let i = c.first_free-slot.result in
    let below : i < length slots = omega (arith, c.first_free-slot.ensures.len, c.if-slot-ge-SLOTS.false) in
    let isnt = not_free h (subst (λ (x : Held). 512 ≤ x.hash) c.in-Some.ensures.same c.in-Some.ensures.hash) in
    let new = c.put.ensures ∙ ap (λ (x : Held). set slots i x) c.in-Some.ensures.same in
    let free = passes_at (λ (x : Held). is_free x) slots i h c.first_free-slot.ensures.slot below in
    subst (λ (hs : List Held). IsShuffled (hs ++ h ∷ []) (taken c.put.new.self)) c.self.view_is
    (subst (λ (hs : List Held). IsShuffled (taken slots ++ h ∷ []) (taken hs)) (sym new)
    (fills h slots i below h free isnt))

pub returns-clause-hashes : goal.returns-clause-hashes
returns-clause-hashes c = λ so.
    let h = c.args.held in
    let slots = c.self.inside.slots in
    let i = c.first_free-slot.result in
    let below : i < length slots = omega (arith, c.first_free-slot.ensures.len, c.if-slot-ge-SLOTS.false) in
    let isnt = not_free h (subst (λ (x : Held). 512 ≤ x.hash) c.in-Some.ensures.same c.in-Some.ensures.hash) in
    let new = c.put.ensures ∙ ap (λ (x : Held). set slots i x) c.in-Some.ensures.same in
    let free = passes_at (λ (x : Held). is_free x) slots i h c.first_free-slot.ensures.slot below in
    subst (λ (hs : List Held). BringsNoHash (hs ++ h ∷ []) (taken c.put.new.self)) c.self.view_is
    (subst (λ (hs : List Held). BringsNoHash (taken slots ++ h ∷ []) (taken hs)) (sym new)
    (fills_brings h slots i below h free isnt))
