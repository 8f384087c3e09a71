use Rattle.std.proofs.Common.{length, ◌-◌}
use Rattle.division.proofs.Gatherings.{IsGathering}
use Rattle.division.proofs.dividing.gather.Given as goal

abbrev pub invariant-loop-at : goal.invariant-loop-at
invariant-loop-at l = IsGathering l.will l.segment l.text l.at l.all.items

abbrev pub decreases-loop-at : goal.decreases-loop-at
decreases-loop-at l = length l.text - l.at
