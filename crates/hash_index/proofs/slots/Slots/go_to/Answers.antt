use Rattle.std.proofs.Common.{◌≡◌, ℕ, ◌+◌, ◌*◌, ◌/◌, ◌%◌, ◌<◌, get_or, set, sym, ap, ◌∙◌, arith}
use Rattle.places.specs.declared.place.Held.{Held}
use Rattle.hash_index.proofs.Packing.{slots_moved, same_words, read_slot, word_at}
use Rattle.hash_index.proofs.slots.Slots.go_to.Goals as goal

pub returns : goal.returns
returns c =
    let s = c.self.inside in
    let p = c.packed.inside in
    let i = c.args.slot in
    let to = c.args.to in
    let tag = get_or s.tags i 0 in
    let x = get_or s.ats i 0 in
    let at = word_at 4294967296 s.ats i c.self.invariant.1 (omega arith) in
    let p_at : p.at < 4294967296 = c.packed.invariant.1 in
    let here = sym (read_slot s.tags s.ats s.segments c.args.self.now i c.self.view_is c.self.told.0 c.self.told.1
    c.self.told.2 c.requires.slot c.args.packed.now) ∙ c.requires.same ∙ sym c.packed.view_is in
    let tags = (same_words tag p.tag x p.at at p_at (ap (λ (h : Held). h.hash) here)
    (ap (λ (h : Held). h.place.at) here)).0 in
    let quotient : (p.at / 8388608 * 8388608 + to.at) / 8388608 ≡ p.at / 8388608 = omega (arith, c.requires.offset) in
    let rest : (p.at / 8388608 * 8388608 + to.at) % 8388608 ≡ to.at = omega (arith, c.requires.offset) in
    let whole = ap (λ (h : Held). h.hash) c.packed.view_is in
    let hash : tag * 512 + (p.at / 8388608 * 8388608 + to.at) / 8388608 ≡ c.args.packed.now.hash =
    ap (λ (t : ℕ). t * 512 + (p.at / 8388608 * 8388608 + to.at) / 8388608) tags
    ∙ ap (λ (q : ℕ). p.tag * 512 + q) quotient ∙ whole in
    slots_moved s.tags s.ats s.segments i (p.at / 8388608 * 8388608 + to.at) to.segment
    ∙ (λ j. set (c.self.view_is j) i (record {
      hash = hash j;
      place = record { segment = to.segment; at = rest j };
    }))
