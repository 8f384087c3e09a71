use Rattle.std.proofs.Common.{◌≡◌, ◌≤◌, ◌-◌, take}
use Rattle.lines.specs.Scanning.{HoldsTogether, behind}
use Rattle.lines.proofs.reading.front_of_raw.Given as goal

abbrev pub invariant-loop-len : goal.invariant-loop-len
invariant-loop-len l = record {
  stands : l.behind ≡ behind l.fn.scan (take l.len l.fn.shown);
  together : HoldsTogether l.fn.scan (take l.len l.fn.shown);
  within : l.len ≤ l.most;
}

abbrev pub decreases-loop-len : goal.decreases-loop-len
decreases-loop-len l = l.most - l.len
