use Rattle.packing.proofs.Answering.{heads_counted}
use Rattle.packing.proofs.limits.heads_by.Goals as goal

pub returns : goal.returns
returns c = heads_counted c.args.sizes.now c.args.largest c.args.live c.args.heads c.min-longest.result
    c.mean_opening-opening.result c.min-longest.ensures c.mean_opening-opening.ensures
