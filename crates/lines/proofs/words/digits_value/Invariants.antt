use Rattle.std.proofs.Common.{◌<◌, ◌^◌}
use Rattle.lines.proofs.Digits.{AreReadTo}
use Rattle.lines.proofs.words.digits_value.Given as goal

abbrev pub invariant-loop-byte : goal.invariant-loop-byte
invariant-loop-byte l = record {
  read : AreReadTo l.digits l.byte-index l.number;
  fits : l.number < 2 ^ 64;
}
