use Rattle.std.proofs.Common.{List, subst}
use Rattle.std.specs.List.{AllByRecursion}
use Rattle.places.specs.declared.place.Held.{Held}
use Rattle.hash_index.specs.Packing.{IsPackable}
use Rattle.hash_index.proofs.Packing.{packable}
use Rattle.hash_index.proofs.slots.Slots.show_valid.Goals as goal

pub returns : goal.returns
returns c =
    let s = c.self.inside in
    subst (λ (hs : List Held). AllByRecursion IsPackable hs) c.self.view_is
    (packable s.tags s.ats s.segments c.self.invariant.0 c.self.invariant.1)
