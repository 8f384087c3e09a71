use Rattle.answers.proofs.Fronts.{Wrote}
use Rattle.answers.proofs.handing.hand.Given as goal

abbrev pub invariant-loop : goal.invariant-loop
invariant-loop g l = Wrote (g.W.Write.contents l.fn.writer) (g.W.Write.contents l.writer) l.fn.bytes l.rest
