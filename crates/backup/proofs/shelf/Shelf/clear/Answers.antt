use Rattle.backup.proofs.Shelves.{ordered_none}
use Rattle.backup.proofs.shelf.Shelf.clear.Goals as goal

pub invariant_of-self : goal.invariant_of-self
invariant_of-self c = rw c.clear.ensures.items ordered_none
