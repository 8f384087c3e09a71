use Rattle.std.proofs.Common.{List, ap, ◌∙◌}
use Rattle.places.specs.declared.place.Held.{Held}
use Rattle.places.specs.Lists.{holds_in}
use Rattle.place_index.proofs.Relocating.{slot_tells}
use Rattle.chain_index.proofs.front.Front.holds.Goals as goal

pub returns : goal.returns
returns c =
    c.is_some.ensures
    ∙ slot_tells c.args.held c.deref.result.now c.slot_at.result c.slot_at.ensures
    ∙ ap (λ (xs : List Held). holds_in xs c.args.held) (c.deref.ensures.0 ∙ c.self.view_is)
