use Rattle.std.proofs.Common.{length, ◌-◌, ◌≤◌}
use Rattle.master_space.proofs.SizeWalk.{IsListed}
use Rattle.master_space.proofs.sizes.add_sizes.Given as goal

abbrev pub invariant-loop-at : goal.invariant-loop-at
invariant-loop-at l = record {
  listed : IsListed l.index.held l.id l.segment l.initial.sizes.items l.at l.sizes.items;
  within : l.at ≤ length l.text;
}

abbrev pub decreases-loop-at : goal.decreases-loop-at
decreases-loop-at l = length l.text - l.at
