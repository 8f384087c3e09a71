use Rattle.std.proofs.Common.{length}
use Rattle.cleaner.proofs.fitting.+bytes_in.Given as goal

abbrev pub decreases-bytes_in : goal.decreases-bytes_in
decreases-bytes_in l = length l.ids.now
