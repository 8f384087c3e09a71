use Rattle.std.proofs.Common.{◌<◌, below_more}
use Rattle.std.specs.Prelude.{slice_index}
use Rattle.rebuilding.proofs.Scans.{each_among, here_among}
use Rattle.rebuilding.proofs.naming.unmarked.Goals as goal

pub returns-then-n-count : goal.returns-then-n-count
returns-then-n-count c =
    let order = c.args.order.now in
    let k = c.loop-n.n-index in (slice_index order k, here_among order k c.loop-n-test.true, c.if-n-count.true)

pub loop-n-preserved : goal.loop-n-preserved
loop-n-preserved c = below_more _ _ c.loop-n.invariant c.if-n-count.false

pub returns : goal.returns
returns c =
    each_among (λ n. n < c.args.count) c.args.order.now c.loop-n.n-index c.loop-n-test.false c.loop-n.invariant
