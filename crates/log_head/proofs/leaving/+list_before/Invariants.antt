use Rattle.std.proofs.Common.{length}
use Rattle.log_head.proofs.leaving.+list_before.Given as goal

abbrev pub decreases-list_before : goal.decreases-list_before
decreases-list_before l = length l.waits.now
