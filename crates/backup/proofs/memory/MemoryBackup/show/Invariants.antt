use Rattle.std.proofs.Common.{◌≡◌, ◌++◌, ◌+◌, ◌≤◌, map, drop, length}
use Rattle.std.specs.Prelude.{vec_len, vec_capacity}
use Rattle.backup.specs.Shelf.{holding_of, holdings_of}
use Rattle.backup.proofs.memory.MemoryBackup.show.Given as goal

abbrev pub invariant-loop-place : goal.invariant-loop-place
invariant-loop-place l = record {
  whole : l.list.items ++ map (holding_of l.backup) (drop l.place-index l.place-items)
      ≡ l.initial.list.items ++ holdings_of l.backup l.self;
  room : vec_len l.list + length l.place-items ≤ vec_capacity l.list + l.place-index;
}
