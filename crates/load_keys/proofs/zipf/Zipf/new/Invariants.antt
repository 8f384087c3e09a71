use Rattle.std.proofs.Common.{◌≡◌, length}
use Rattle.load_keys.proofs.zipf.Zipf.new.Given as goal

abbrev pub invariant-loop-rank : goal.invariant-loop-rank
invariant-loop-rank l = length l.sums.items ≡ l._rank
