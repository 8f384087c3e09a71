use Rattle.std.proofs.Common.{length}
use Rattle.cleaner.proofs.filling.+fill_seen.Given as goal

abbrev pub decreases-fill_seen : goal.decreases-fill_seen
decreases-fill_seen l = length l.seen.now
