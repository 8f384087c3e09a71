use Rattle.std.proofs.Common.{List, set, ap, ◌∙◌}
use Rattle.places.specs.declared.place.Held.{Held}
use Rattle.hash_index.specs.Packing.{unpacked}
use Rattle.hash_index.proofs.Packing.{slots_set}
use Rattle.hash_index.proofs.slots.Slots.free.Goals as goal

pub returns : goal.returns
returns c =
    let s = c.self.inside in
    slots_set s.tags s.ats s.segments c.args.slot 0 0 0
    ∙ ap (λ (hs : List Held). set hs c.args.slot (unpacked 0 0 0)) c.self.view_is
