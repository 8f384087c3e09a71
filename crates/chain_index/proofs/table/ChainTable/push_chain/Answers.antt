use Rattle.place_index.proofs.TwoLists.{shuffled_parts}
use Rattle.chain_index.proofs.table.ChainTable.push_chain.Goals as goal

pub returns : goal.returns
returns c =
    shuffled_parts c.args.self.now c.push_all.new.self c.push_all-2.new.self c.parts.result.0.now c.parts.result.1.now
    c.args.chain.now c.push_all-2.result c.parts.ensures c.in_ok-push_all.ensures c.push_all-2.ensures
