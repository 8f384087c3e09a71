use Rattle.std.proofs.Common.{◌++◌, take}
use Rattle.hash_index.proofs.Halves.{divides_more}
use Rattle.hash_index.proofs.dividing.deal_all.Goals as goal

pub loop-held-preserved : goal.loop-held-preserved
loop-held-preserved c = λ start d.
    let i = c.loop-held.held-index in
    let all = c.args.places.now in
    divides_more c.args.count start all c.deal.new.to.stays c.deal.new.to.goes i _ c.loop-held-test.true
    (c.in_ok-deal.ensures (start ++ take i all) (c.loop-held.invariant start d))
