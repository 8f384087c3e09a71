use Rattle.std.proofs.Common.{◌≡◌, ◌++◌, drop, map}
use Rattle.master.specs.Segments.{closed_row}
use Rattle.master.proofs.segments.closed_rows.Given as goal

abbrev pub invariant-loop-image : goal.invariant-loop-image
invariant-loop-image l =
    l.rows.items ++ map (closed_row l.core) (drop l.image-index l.image-items)
    ≡ map (closed_row l.core) l.image-items
