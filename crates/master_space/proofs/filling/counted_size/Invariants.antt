use Rattle.master_space.proofs.Filled.{IsFilledTo}
use Rattle.master_space.proofs.filling.counted_size.Given as goal

abbrev pub invariant-loop-id : goal.invariant-loop-id
invariant-loop-id l = IsFilledTo l.core l.victims l.id-index l.level
