use Rattle.std.proofs.Common.{◌≡◌, ◌<◌, ◌-◌, true, false}
use Rattle.packing.specs.Limits.{is_limit}
use Rattle.packing.proofs.limits.greatest_limit.Given as goal

abbrev pub invariant-loop-above : goal.invariant-loop-above
invariant-loop-above l = record {
  below : l.limit < l.above;
  limit : is_limit l.fn.sizes l.fn.largest l.limit ≡ true;
  none : is_limit l.fn.sizes l.fn.largest l.above ≡ false;
}

abbrev pub decreases-loop-above : goal.decreases-loop-above
decreases-loop-above l = l.above - l.limit
