use Rattle.std.proofs.Common.{◌≡◌, ◌≤◌, length}
use Rattle.std.specs.HashMap.{spare}
use Rattle.std.specs.List.{IsDistinct}
use Rattle.std.specs.Map.{keys_of}
use Rattle.entry.specs.declared.key.Key.{Key}
use Rattle.partition_replay.specs.Keeping.{kept_in}
use Rattle.partition_replay.proofs.MapLemmas.{same_key}
use Rattle.partition_replay.proofs.keeping.put.Given as goal

-- what is left of the fresh ones, over what is kept, is the whole
abbrev pub invariant-loop-key : goal.invariant-loop-key
invariant-loop-key l = record {
  unique : IsDistinct same_key (keys_of l.key-iterator);
  room : length l.key-iterator ≤ spare l.kept;
  same : (k : Key) → kept_in l.key-iterator l.kept.entries k ≡ kept_in l.initial.key-iterator l.initial.kept.entries k;
}
