use Rattle.std.proofs.Common.{length}
use Rattle.compactor.proofs.keeping.+held_bytes.Given as goal

abbrev pub decreases-held_bytes : goal.decreases-held_bytes
decreases-held_bytes l = length l.asked.now
