use Rattle.std.proofs.Common.{◌≡◌, map, take}
use Rattle.division.specs.Groups.{grouped}
use Rattle.rebuilding.specs.Turns.{all_groups, AreAllCovered}
use Rattle.rebuilding.proofs.rebuilding.groups_in.Given as goal

abbrev pub invariant-loop-segment : goal.invariant-loop-segment
invariant-loop-segment l = record {
  groups : map grouped l.all.items ≡ all_groups l.will (take l.segment-index l.segments);
  covered : AreAllCovered l.will (take l.segment-index l.segments);
}
