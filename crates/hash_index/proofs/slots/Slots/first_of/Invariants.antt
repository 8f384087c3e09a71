use Rattle.std.proofs.Common.{◌≡◌, ◌+◌, ◌≤◌, drop, length}
use Rattle.std.specs.List.{position_or_len}
use Rattle.entry.specs.View.{shown_key}
use Rattle.places.specs.Lists.{is_of}
use Rattle.hash_index.proofs.slots.Slots.first_of.Given as goal

abbrev pub invariant-loop-slot : goal.invariant-loop-slot
invariant-loop-slot g l = record {
  found : l.found ≡ l.slot
      + position_or_len (is_of (g.R.Resolve.keys l.resolver) (shown_key l.key) l.hash) (drop l.slot l.self);
  within : l.slot ≤ length l.self;
  len : length l.self ≡ 8;
}

abbrev pub decreases-loop-slot : goal.decreases-loop-slot
decreases-loop-slot g l = l.slot
