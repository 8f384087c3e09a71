use Rattle.std.proofs.Common.{List, ap, ◌∙◌}
use Rattle.places.specs.declared.place.Held.{Held}
use Rattle.place_index.proofs.Relocating.{slot_tells}
use Rattle.place_index.proofs.list.PlaceListTable.holds.Goals as goal
use Rattle.places.specs.Lists.{holds_in}
use Rattle.place_index.specs.Steps.{ListValue}

pub returns : goal.returns
returns c =
    let list = c.deref.ensures.value ∙ ap (λ (v : ListValue). v.held) c.self.view_is in
    c.is_some.ensures
    ∙ slot_tells c.args.held c.deref.result.now c.slot_at.result c.slot_at.ensures
    ∙ ap (λ (xs : List Held). holds_in xs c.args.held) list
