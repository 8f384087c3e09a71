use Rattle.std.proofs.Common.{arith, ap, length}
use Rattle.cluster.proofs.Forgotten.{forgets_few}
use Rattle.cluster.proofs.node.Node.forget.Goals as goal

pub returns-then-kept-le-BLOCK-clause-forgets : goal.returns-then-kept-le-BLOCK-clause-forgets
returns-then-kept-le-BLOCK-clause-forgets c =
    let up = c.in-Up.up in
    let few = c.if-kept-le-BLOCK.true in
    let kept = c.kept.ensures.kept in
    let records = ap length c.history-history.ensures.records in
    let forgotten = c.history-history.ensures.forgotten in
    forgets_few c.args.self.now up c.in-Up.is (omega (arith, few, kept, records, forgotten))
