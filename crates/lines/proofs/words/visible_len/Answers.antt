use Rattle.std.proofs.Common.{arith, rules}
use Rattle.std.proofs.lemmas.List.Elements.{All-more}
use Rattle.lines.specs.Words.{IsVisible}
use Rattle.lines.proofs.Visible.{some_more}
use Rattle.lines.proofs.words.visible_len.Goals as goal

pub loop-len-preserved : goal.loop-len-preserved
loop-len-preserved c = record {
  within = search (rules, arith);
  visible = some_more c.args.bytes.now c.loop-len.len 32 c.loop-len.invariant.visible
      (c.are_visible.ensures.0 c.if-are_visible.true);
}

pub loop-len-2-preserved : goal.loop-len-2-preserved
loop-len-2-preserved c = record {
  within = search (rules, arith);
  visible = some_more c.args.bytes.now c.loop-len-2.len 8 c.loop-len-2.invariant.visible
      (c.are_visible-in-loop-len-2.ensures.0 c.if-are_visible-2.true);
}

pub loop-len-3-preserved : goal.loop-len-3-preserved
loop-len-3-preserved c = record {
  within = search (rules, arith);
  visible = All-more IsVisible c.args.bytes.now c.loop-len-3.len 0
      (search (rules, arith)) c.loop-len-3.invariant.visible (c.is_visible.ensures.0 c.if-is_visible.true);
}
