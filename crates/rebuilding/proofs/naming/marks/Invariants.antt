use Rattle.std.proofs.Common.{◌≡◌, length}
use Rattle.rebuilding.specs.Turns.{AreMarked}
use Rattle.rebuilding.proofs.naming.marks.Given as goal

abbrev pub invariant-loop-n : goal.invariant-loop-n
invariant-loop-n l = record {
  long : length l.named.items ≡ l.count;
  marks : AreMarked l.order l.n-index l.named.items;
}
