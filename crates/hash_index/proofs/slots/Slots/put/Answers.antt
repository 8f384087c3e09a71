use Rattle.std.proofs.Common.{List, set, ap, ◌∙◌}
use Rattle.places.specs.declared.place.Held.{Held}
use Rattle.hash_index.specs.Packing.{unpacked}
use Rattle.hash_index.proofs.Packing.{slots_set}
use Rattle.hash_index.proofs.slots.Slots.put.Goals as goal

pub returns : goal.returns
returns c =
    let s = c.self.inside in
    let p = c.packed.inside in
    let i = c.args.slot in
    slots_set s.tags s.ats s.segments i p.tag p.at p.segment
    ∙ ap (λ (hs : List Held). set hs i (unpacked p.tag p.at p.segment)) c.self.view_is
    ∙ ap (λ (h : Held). set c.args.self.now i h) c.packed.view_is
