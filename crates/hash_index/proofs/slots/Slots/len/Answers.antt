use Rattle.std.proofs.Common.{List, length, sym, ap, ◌∙◌}
use Rattle.places.specs.declared.place.Held.{Held}
use Rattle.hash_index.proofs.Packing.{slots_len}
use Rattle.hash_index.proofs.slots.Slots.len.Goals as goal

pub returns-clause-len : goal.returns-clause-len
returns-clause-len c =
    let s = c.self.inside in
    ap (λ (hs : List Held). length hs) (sym c.self.view_is)
    ∙ slots_len 8 s.tags s.ats s.segments c.self.told.0 c.self.told.1 c.self.told.2
