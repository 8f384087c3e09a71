use Rattle.std.specs.Prelude.{IfSome}
use Rattle.lines.specs.Cutting.{words_left}
use Rattle.lines.specs.Reasons.{IsWrong}
use Rattle.lines.proofs.Among.{AreLeft}
use Rattle.lines.proofs.why.wrong_of.Given as goal

abbrev pub invariant-loop-kind : goal.invariant-loop-kind
invariant-loop-kind l = record {
  left : AreLeft (words_left l.rest) l.words;
  found : IfSome l.found (IsWrong (words_left l.rest));
}
