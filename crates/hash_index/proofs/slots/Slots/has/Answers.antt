use Rattle.std.proofs.Common.{◌<◌, get_or, sym, ap, ◌∙◌, arith}
use Rattle.places.specs.declared.place.Held.{Held}
use Rattle.places.specs.Lists.{is_same}
use Rattle.hash_index.specs.Packing.{unpacked}
use Rattle.hash_index.proofs.Packing.{same_is, read_slot, word_at}
use Rattle.hash_index.proofs.slots.Slots.has.Goals as goal

pub returns : goal.returns
returns c = λ d.
    let s = c.self.inside in
    let hs = c.args.self.now in
    let i = c.args.slot in
    let at = word_at 4294967296 s.ats i c.self.invariant.1 (omega arith) in
    let p = c.sought.inside in
    let p_at : p.at < 4294967296 = c.sought.invariant.1 in
    let told = c.self.told in
    let slot = read_slot s.tags s.ats s.segments hs i c.self.view_is told.0 told.1 told.2 c.requires d in
    let tag = get_or s.tags i 0 in
    let offset = get_or s.ats i 0 in
    let segment = get_or s.segments i 0 in
    same_is tag offset segment p.tag p.at p.segment at p_at
    ∙ ap (λ (h : Held). is_same h (unpacked tag offset segment)) c.sought.view_is
    ∙ ap (λ (h : Held). is_same c.args.sought.now h) (sym slot)
