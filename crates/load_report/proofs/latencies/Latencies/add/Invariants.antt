use Rattle.std.proofs.Common.{◌≡◌, length}
use Rattle.load_report.proofs.latencies.Latencies.add.Given as goal

abbrev pub invariant-loop-class : goal.invariant-loop-class
invariant-loop-class l =
    (length l.self-inside.counts.items ≡ 1920) × (l.self-inside.greatest ≡ l.fn.self.greatest)
