use Rattle.std.proofs.Common.{List, length, get_or, sym, ap, ◌∙◌, arith}
use Rattle.places.specs.declared.place.Held.{Held}
use Rattle.hash_index.specs.Packing.{unpacked}
use Rattle.hash_index.proofs.Packing.{slots_len, slots_get}
use Rattle.hash_index.proofs.slots.Slots.get.Goals as goal

pub returns-clause-slot : goal.returns-clause-slot
returns-clause-slot c =
    let s = c.self.inside in
    let i = c.args.slot in
    let d = unpacked (get_or s.tags i 0) (get_or s.ats i 0) (get_or s.segments i 0) in
    let told = c.self.told in
    sym (slots_get s.tags s.ats s.segments i d (omega (arith, c.requires, told.0)) (omega (arith, c.requires, told.1))
    (omega (arith, c.requires, told.2)))
    ∙ ap (λ (hs : List Held). get_or hs i d) c.self.view_is

pub returns-clause-len : goal.returns-clause-len
returns-clause-len c =
    let s = c.self.inside in
    sym (ap (λ (hs : List Held). length hs) c.self.view_is)
    ∙ slots_len 8 s.tags s.ats s.segments c.self.told.0 c.self.told.1 c.self.told.2
