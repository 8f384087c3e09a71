use Rattle.std.proofs.Common.{◌≤◌, ◌-◌, take, length}
use Rattle.log_head.proofs.Heads.{Lags}
use Rattle.log_head.proofs.lagging.lagging_of_all.Given as goal

abbrev pub invariant-loop-place : goal.invariant-loop-place
invariant-loop-place l = record {
  lags : Lags l.units l.least l.found (take l.place l.taken);
  within : l.place ≤ length l.taken;
}

abbrev pub decreases-loop-place : goal.decreases-loop-place
decreases-loop-place l = length l.taken - l.place
