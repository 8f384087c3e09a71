use Rattle.std.proofs.Common.{◌≡◌, length}
use Rattle.load_report.proofs.latencies.Latencies.new.Given as goal

abbrev pub invariant-loop-class : goal.invariant-loop-class
invariant-loop-class l = length l.counts.items ≡ l._class
