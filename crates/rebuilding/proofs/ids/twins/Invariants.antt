use Rattle.rebuilding.specs.Rebuilds.{ids_of}
use Rattle.rebuilding.proofs.Twins.{IsLooking}
use Rattle.rebuilding.proofs.ids.twins.Given as goal

abbrev pub invariant-loop-at : goal.invariant-loop-at
invariant-loop-at l = IsLooking (ids_of l.segments) l.at l.greatest
