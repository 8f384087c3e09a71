use Rattle.std.proofs.Common.{◌≡◌, ◌++◌, take, drop}
use Rattle.master.specs.Segments.{with_row}
use Rattle.master.proofs.segments.place_for.Given as goal

abbrev pub invariant-loop-at : goal.invariant-loop-at
invariant-loop-at l = with_row l.row l.rows ≡ take l.at l.rows ++ with_row l.row (drop l.at l.rows)
