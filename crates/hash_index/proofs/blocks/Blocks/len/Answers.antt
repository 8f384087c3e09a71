use Rattle.std.proofs.Common.{List, ap, sym, ◌∙◌, length}
use Rattle.places.specs.declared.place.Held.{Held}
use Rattle.hash_index.proofs.Blocked.{blocks_length}
use Rattle.hash_index.proofs.blocks.Blocks.len.Goals as goal

pub returns-clause-len : goal.returns-clause-len
returns-clause-len c =
    let s = c.self.inside in
    sym (blocks_length s.len s.blocks.items c.self.invariant.0)
    ∙ ap (λ (xs : List (List Held)). length xs) c.self.view_is
