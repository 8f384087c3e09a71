use Rattle.std.proofs.Common.{◌≡◌, ◌≤◌, length, drop, vec_len, vec_capacity}
use Rattle.places.specs.Map.{AreKeptBy}
use Rattle.place_index.specs.Runs.{AreTold, AreWithin}
use Rattle.place_index.proofs.Turns.{IsRunning}
use Rattle.place_index.proofs.running.run.Given as goal

abbrev pub invariant-loop-call : goal.invariant-loop-call
invariant-loop-call g l = record {
  running : AreKeptBy g.H.KeyHash.hash_of (g.R.Resolve.keys l.fn.resolver) l.fn.index.held
      → AreTold (g.R.Resolve.keys l.fn.resolver) l.fn.calls
      → IsRunning g.H.KeyHash.hash_of (g.R.Resolve.keys l.fn.resolver) l.fn.calls l.fn.index.held l.index.held
      (drop l.call-index l.fn.calls) l.answers.items;
  within : AreWithin (drop l.call-index l.fn.calls);
  count : vec_len l.answers ≡ l.call-index;
  room : length l.fn.calls ≤ vec_capacity l.answers;
}
