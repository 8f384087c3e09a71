use Rattle.std.proofs.Common.{◌≡◌, ◌+◌, ◌*◌, ◌-◌}
use Rattle.entry.specs.Format.{listed_at, are_listed}
use Rattle.entry.proofs.reading.are_segments.Given as goal

abbrev pub invariant-loop-i : goal.invariant-loop-i
invariant-loop-i l =
    are_listed (listed_at (l.count - (l.i - 1)) (5 + 16 * (l.i - 1)) l.bytes) ≡ are_listed (listed_at l.count 5 l.bytes)
