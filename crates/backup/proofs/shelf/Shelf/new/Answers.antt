use Rattle.backup.proofs.Shelves.{ordered_none}
use Rattle.backup.proofs.shelf.Shelf.new.Goals as goal

pub invariant_of-result : goal.invariant_of-result
invariant_of-result c = rw c.new.ensures.items ordered_none
