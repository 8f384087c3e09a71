use Rattle.std.proofs.Common.{◌≡◌, ◌+◌, ◌*◌, ◌≤◌, drop, length}
use Rattle.std.specs.List.{position_or_len}
use Rattle.places.specs.Lists.{has_hash}
use Rattle.hash_index.proofs.slots.Slots.search_hashed.Given as goal

abbrev pub invariant-loop-slot : goal.invariant-loop-slot
invariant-loop-slot l = record {
  found : l.found ≡ l.slot + position_or_len (has_hash (l.tag * 512 + l.low)) (drop l.slot l.self);
  within : l.slot ≤ length l.self;
  len : length l.self ≡ 8;
}

abbrev pub decreases-loop-slot : goal.decreases-loop-slot
decreases-loop-slot l = l.slot
