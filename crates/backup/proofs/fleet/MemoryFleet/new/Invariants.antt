use Rattle.std.proofs.Common.{◌≡◌, ℕ, length, None}
use Rattle.backup.specs.State.{picture_of}
use Rattle.backup.proofs.fleet.MemoryFleet.new.Given as goal

abbrev pub invariant-loop : goal.invariant-loop
invariant-loop l = record {
  count : length l.list.items ≡ l.counter;
  empty : (b m s : ℕ) → picture_of l.list.items b m s ≡ None;
}
