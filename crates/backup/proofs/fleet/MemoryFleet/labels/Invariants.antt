use Rattle.std.proofs.Common.{◌≡◌, ◌++◌, ◌+◌, ◌≤◌, map, drop, length}
use Rattle.std.specs.Prelude.{vec_len, vec_capacity}
use Rattle.replica.specs.Picture.{label_of}
use Rattle.backup.proofs.fleet.MemoryFleet.labels.Given as goal

abbrev pub invariant-loop-holding : goal.invariant-loop-holding
invariant-loop-holding l = record {
  whole : l.labels.items ++ map label_of (drop l.holding-index l.holdings) ≡ map label_of l.holdings;
  room : vec_len l.labels + length l.holdings ≤ vec_capacity l.labels + l.holding-index;
}
