use Rattle.std.proofs.Common.{◌≡◌, ◌+◌, ◌*◌, ◌-◌, ◌++◌}
use Rattle.entry.specs.Format.{listed_at}
use Rattle.entry.proofs.view.DigestRef.to_lengths.Given as goal

abbrev pub invariant-loop-i : goal.invariant-loop-i
invariant-loop-i l =
    l.segments.items ++ listed_at (l.self.count - l.i) (5 + 16 * l.i) l.self.text.now
    ≡ listed_at l.self.count 5 l.self.text.now
