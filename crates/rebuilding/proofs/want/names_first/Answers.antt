use Rattle.std.proofs.Common.{◌≢◌, ◌*◌, below_more, subst, refl}
use Rattle.std.specs.Prelude.{slice_index}
use Rattle.entry.specs.Bag.{IsAmong}
use Rattle.rebuilding.proofs.Scans.{each_among, here_among, is_first, first_row, first_rest}
use Rattle.rebuilding.proofs.want.names_first.Goals.{else-n-partitions-via-else-n-partitions}
use Rattle.rebuilding.proofs.want.names_first.Goals.{else-n-partitions-via-then-n-partitions+else-n-partitions-eq0}
use Rattle.rebuilding.proofs.want.names_first.Goals as goal

pub returns-then-n-partitions-eq0-clause-yes : goal.returns-then-n-partitions-eq0-clause-yes
returns-then-n-partitions-eq0-clause-yes c =
    let order = c.args.order.now in
    let k = c.loop-n.n-index in
    λ on. subst (λ n. IsAmong n order)
    (is_first (slice_index order k) c.args.at c.args.partitions c.if-n-partitions.true c.if-n-partitions-eq0.true)
    (here_among order k c.loop-n-test.true)

pub loop-n-preserved : goal.loop-n-preserved
loop-n-preserved c =
    let n = slice_index c.args.order.now c.loop-n.n-index in
    let p = c.args.partitions in
    below_more _ _ c.loop-n.invariant
    (elim c.else-n-partitions.branch as (λ _. n ≢ c.args.at * p) [
      | else-n-partitions-via-then-n-partitions+else-n-partitions-eq0 w ↦
          λ is. w.if-n-partitions-eq0.false (first_rest n c.args.at p is)
      | else-n-partitions-via-else-n-partitions w ↦
          λ is. w.if-n-partitions.false (first_row n c.args.at p c.requires is)
    ])

pub returns-clause-no : goal.returns-clause-no
returns-clause-no c =
    λ off m. each_among (λ n. n ≢ c.args.at * c.args.partitions) c.args.order.now c.loop-n.n-index
    c.loop-n-test.false c.loop-n.invariant (c.args.at * c.args.partitions) m refl
