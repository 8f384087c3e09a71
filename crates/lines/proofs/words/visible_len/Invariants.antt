use Rattle.std.proofs.Common.{◌≤◌, ◌-◌, length, take}
use Rattle.std.specs.List.{All}
use Rattle.lines.specs.Words.{IsVisible}
use Rattle.lines.proofs.words.visible_len.Given as goal

abbrev pub invariant-loop-len : goal.invariant-loop-len
invariant-loop-len l = record {
  within : l.len ≤ length l.bytes;
  visible : All IsVisible (take l.len l.bytes);
}

abbrev pub decreases-loop-len : goal.decreases-loop-len
decreases-loop-len l = length l.bytes - l.len

abbrev pub invariant-loop-len-2 : goal.invariant-loop-len-2
invariant-loop-len-2 l = record {
  within : l.len ≤ length l.bytes;
  visible : All IsVisible (take l.len l.bytes);
}

abbrev pub decreases-loop-len-2 : goal.decreases-loop-len-2
decreases-loop-len-2 l = length l.bytes - l.len

abbrev pub invariant-loop-len-3 : goal.invariant-loop-len-3
invariant-loop-len-3 l = record {
  within : l.len ≤ length l.bytes;
  visible : All IsVisible (take l.len l.bytes);
}

abbrev pub decreases-loop-len-3 : goal.decreases-loop-len-3
decreases-loop-len-3 l = length l.bytes - l.len
