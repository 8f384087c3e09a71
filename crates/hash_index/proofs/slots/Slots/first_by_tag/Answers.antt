use Rattle.std.proofs.Common.{◌≡◌, ◌<◌, ◌/◌, ℕ, get_or, sym, ap, ◌∙◌, arith}
use Rattle.places.specs.declared.place.Held.{Held}
use Rattle.places.specs.Lists.{is_same}
use Rattle.hash_index.specs.Packing.{has_tag}
use Rattle.hash_index.proofs.Packing.{first_stays, not_same}
use Rattle.hash_index.proofs.slots.Slots.first_by_tag.Goals as goal

pub returns-then-slot-ge-SLOTS-clause-slot : goal.returns-then-slot-ge-SLOTS-clause-slot
returns-then-slot-ge-SLOTS-clause-slot c =
    let hs = c.args.self.now in
    let d = get_or hs 0 (record { hash = 0; place = record { segment = 0; at = 0 } }) in
    let first = c.first_tagged-slot.ensures.slot in
    let p = c.sought.inside in
    let below : p.at < 4294967296 = c.sought.invariant.1 in
    let tag : c.args.sought.now.hash / 512 ≡ p.tag = (let hash = ap (λ (h : Held). h.hash) (sym c.sought.view_is) in
    omega (arith, hash, below)) in
    first
    ∙ first_stays (has_tag p.tag) (is_same c.args.sought.now)
    (λ h isnt. not_same p.tag c.args.sought.now h tag isnt) hs d
    (λ below. absurd (omega (arith, below, first, c.first_tagged-slot.ensures.len, c.if-slot-ge-SLOTS.true)))

pub returns-then-has-clause-slot : goal.returns-then-has-clause-slot
returns-then-has-clause-slot c =
    let hs = c.args.self.now in
    let d = get_or hs 0 (record { hash = 0; place = record { segment = 0; at = 0 } }) in
    let first = c.first_tagged-slot.ensures.slot in
    let p = c.sought.inside in
    let below : p.at < 4294967296 = c.sought.invariant.1 in
    let tag : c.args.sought.now.hash / 512 ≡ p.tag = (let hash = ap (λ (h : Held). h.hash) (sym c.sought.view_is) in
    omega (arith, hash, below)) in
    let q = is_same c.args.sought.now in
    first
    ∙ first_stays (has_tag p.tag) q (λ h isnt. not_same p.tag c.args.sought.now h tag isnt) hs d
    (λ under. ap (λ (i : ℕ). q (get_or hs i d)) (sym first) ∙ sym (c.has.ensures d) ∙ c.if-has.true)
