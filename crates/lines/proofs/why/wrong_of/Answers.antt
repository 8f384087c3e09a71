use Rattle.std.specs.Prelude.{IfSome}
use Rattle.lines.specs.Cutting.{words_left}
use Rattle.lines.specs.Reasons.{IsWrong}
use Rattle.lines.proofs.Among.{among, one_read, wrong_among}
use Rattle.lines.proofs.why.wrong_of.Goals.{then-is_none, else-is_none}
use Rattle.lines.proofs.why.wrong_of.Goals as goal

pub loop-kind-preserved : goal.loop-kind-preserved
loop-kind-preserved c = record {
  left = one_read _ _ _ c.in_ok-word.word.now c.loop-kind.invariant.left c.in_ok-word.ensures;
  found = elim c.if-is_none.branch as (λ _. IfSome c.if-is_none.found (IsWrong (words_left c.args.rest))) [
    | then-is_none w ↦ rw w.found-is
        (wrong_among _ c.in_ok-word.word.now w.wrong_of_kind-found.result
        (among _ _ _ c.in_ok-word.word.now c.loop-kind.invariant.left c.in_ok-word.ensures)
        w.wrong_of_kind-found.ensures)
    | else-is_none w ↦ rw w.found-is c.loop-kind.invariant.found
  ];
}
