use Rattle.std.proofs.Common.{map, take}
use Rattle.division.specs.Groups.{grouped}
use Rattle.partition_replay.specs.Replaying.{IsLowest}
use Rattle.partition_replay.proofs.replay.lowest_missing.Given as goal

abbrev pub invariant-loop-id : goal.invariant-loop-id
invariant-loop-id l = IsLowest (take l.id-index l.ids) (map grouped l.groups) l.lowest
