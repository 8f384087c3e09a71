use Rattle.std.proofs.Common.{◌/◌, ◌<◌, below_more}
use Rattle.std.specs.Prelude.{slice_index}
use Rattle.rebuilding.proofs.Scans.{each_among, here_among}
use Rattle.rebuilding.proofs.Wholes.{row_below, row_behind}
use Rattle.rebuilding.proofs.want.has_stranger.Goals as goal

pub returns-then-n-partitions-clause-yes : goal.returns-then-n-partitions-clause-yes
returns-then-n-partitions-clause-yes c =
    let order = c.args.order.now in
    let k = c.loop-n.n-index in
    let n = slice_index order k in
    λ on. (
      n,
      here_among order k c.loop-n-test.true,
      row_behind n c.args.segments c.args.partitions c.if-n-partitions.true,
    )

pub loop-n-preserved : goal.loop-n-preserved
loop-n-preserved c = below_more _ _ c.loop-n.invariant c.if-n-partitions.false

pub returns-clause-no : goal.returns-clause-no
returns-clause-no c =
    let p = c.args.partitions in
    λ off n m. row_below n c.args.segments p c.requires
    (each_among (λ i. i / p < c.args.segments) c.args.order.now c.loop-n.n-index c.loop-n-test.false
    c.loop-n.invariant n m)
