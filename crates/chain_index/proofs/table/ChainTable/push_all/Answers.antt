use Rattle.place_index.proofs.Joining.{shuffled_more}
use Rattle.chain_index.proofs.table.ChainTable.push_all.Goals as goal

pub loop-held-preserved : goal.loop-held-preserved
loop-held-preserved c =
    shuffled_more c.args.self.now c.args.places.now c.loop-held.self c.push.new.self c.loop-held.held-index _
    c.loop-held-test.true c.loop-held.invariant c.in_ok-push.ensures.ok
