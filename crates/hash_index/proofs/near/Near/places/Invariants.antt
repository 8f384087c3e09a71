use Rattle.std.proofs.Common.{◌≡◌, ◌≤◌, take, length}
use Rattle.hash_index.specs.Packing.{taken}
use Rattle.hash_index.proofs.near.Near.places.Given as goal

abbrev pub invariant-loop-slot : goal.invariant-loop-slot
invariant-loop-slot l = record {
  places : l.places.items ≡ taken (take l.slot l.self-inside.slots);
  few : length l.places.items ≤ l.slot;
}
