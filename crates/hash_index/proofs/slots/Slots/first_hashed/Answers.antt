use Rattle.std.proofs.Common.{◌+◌, ◌*◌, ℕ, get_or, sym, ap, ◌∙◌, arith}
use Rattle.places.specs.Lists.{has_hash}
use Rattle.hash_index.specs.Packing.{has_tag}
use Rattle.hash_index.proofs.Packing.{both_hashed, first_stays, untagged}
use Rattle.hash_index.proofs.Taken.{passes_at}
use Rattle.hash_index.proofs.slots.Slots.first_hashed.Goals as goal

pub returns-then-slot-ge-SLOTS-clause-slot : goal.returns-then-slot-ge-SLOTS-clause-slot
returns-then-slot-ge-SLOTS-clause-slot c =
    let hs = c.args.self.now in
    let d = get_or hs 0 (record { hash = 0; place = record { segment = 0; at = 0 } }) in
    let first = c.first_tagged-slot.ensures.slot in
    first
    ∙ first_stays (has_tag c.args.tag) (has_hash (c.args.tag * 512 + c.args.low))
    (λ h isnt. untagged c.args.tag c.args.low h c.requires isnt) hs d
    (λ below. absurd (omega (arith, below, first, c.first_tagged-slot.ensures.len, c.if-slot-ge-SLOTS.true)))

pub returns-then-is_low-clause-slot : goal.returns-then-is_low-clause-slot
returns-then-is_low-clause-slot c =
    let hs = c.args.self.now in
    let d = get_or hs 0 (record { hash = 0; place = record { segment = 0; at = 0 } }) in
    let first = c.first_tagged-slot.ensures.slot in
    let p = has_tag c.args.tag in
    let q = has_hash (c.args.tag * 512 + c.args.low) in
    first
    ∙ first_stays p q (λ h isnt. untagged c.args.tag c.args.low h c.requires isnt) hs d
    (λ below. ap (λ (i : ℕ). q (get_or hs i d)) (sym first)
    ∙ both_hashed c.args.tag c.args.low (get_or hs c.first_tagged-slot.result d)
    (passes_at p hs c.first_tagged-slot.result d first (omega (arith, first, below)))
    (sym (c.is_low.ensures d) ∙ c.if-is_low.true))
