use Rattle.std.proofs.Common.{get_or, sym, ap, ◌∙◌, arith}
use Rattle.places.specs.declared.place.Held.{Held}
use Rattle.hash_index.specs.Packing.{has_low}
use Rattle.hash_index.proofs.Packing.{low_is, read_slot, word_at}
use Rattle.hash_index.proofs.slots.Slots.is_low.Goals as goal

pub returns : goal.returns
returns c = λ d.
    let s = c.self.inside in
    let hs = c.args.self.now in
    let i = c.args.slot in
    let at = word_at 4294967296 s.ats i c.self.invariant.1 (omega arith) in
    let told = c.self.told in
    let slot = read_slot s.tags s.ats s.segments hs i c.self.view_is told.0 told.1 told.2 c.requires d in
    low_is (get_or s.tags i 0) (get_or s.ats i 0) (get_or s.segments i 0) c.args.low at
    ∙ ap (λ (h : Held). has_low c.args.low h) (sym slot)
