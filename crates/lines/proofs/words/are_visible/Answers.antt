use Rattle.std.proofs.Common.{◌≤◌, ◌↔◌, length, subst, take_all, arith, rules}
use Rattle.std.specs.Prelude.{IsTrue}
use Rattle.std.specs.List.{All}
use Rattle.lines.specs.Words.{IsVisible}
use Rattle.lines.proofs.Visible.{one_more}
use Rattle.lines.proofs.words.are_visible.Goals as goal

pub loop-byte-preserved : goal.loop-byte-preserved
loop-byte-preserved c =
    one_more c.args.bytes.now c.loop-byte.byte-index (search (rules, arith)) _ _ c.loop-byte.invariant
    c.is_visible-all.ensures

pub returns : goal.returns
returns c =
    let end : length c.args.bytes.now ≤ c.loop-byte.byte-index = search (rules, arith) in
    subst (λ bytes. IsTrue c.loop-byte.all ↔ All IsVisible bytes)
    (take_all c.loop-byte.byte-index c.args.bytes.now end) c.loop-byte.invariant
