use Rattle.std.proofs.Common.{length}
use Rattle.log_head.proofs.leaving.+push_before.Given as goal

abbrev pub decreases-push_before : goal.decreases-push_before
decreases-push_before l = length l.waits.now
