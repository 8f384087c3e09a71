use Rattle.std.proofs.Common.{take, ◌↔◌}
use Rattle.std.specs.Prelude.{IsTrue}
use Rattle.std.specs.List.{All}
use Rattle.lines.specs.Words.{IsVisible}
use Rattle.lines.proofs.words.are_visible.Given as goal

abbrev pub invariant-loop-byte : goal.invariant-loop-byte
invariant-loop-byte l = IsTrue l.all ↔ All IsVisible (take l.byte-index l.bytes)
