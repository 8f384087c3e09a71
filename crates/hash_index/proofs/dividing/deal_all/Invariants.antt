use Rattle.std.proofs.Common.{List, ◌++◌, take}
use Rattle.places.specs.declared.place.Held.{Held}
use Rattle.hash_index.specs.Buckets.{Divides}
use Rattle.hash_index.proofs.dividing.deal_all.Given as goal

abbrev pub invariant-loop-held : goal.invariant-loop-held
invariant-loop-held l = (start : List Held) → Divides l.count start l.initial.to.stays l.initial.to.goes
    → Divides l.count (start ++ take l.held-index l.places) l.to.stays l.to.goes
