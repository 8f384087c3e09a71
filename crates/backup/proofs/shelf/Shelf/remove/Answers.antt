use Rattle.backup.proofs.Shelves.{ordered_removed}
use Rattle.backup.proofs.shelf.Shelf.remove.Goals as goal

pub invariant_of-self : goal.invariant_of-self
invariant_of-self c =
    rw c.remove.ensures.items (ordered_removed c.self.inside.slots.items c.args.at c.self.invariant)
