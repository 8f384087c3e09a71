use Rattle.std.proofs.Common.{length}
use Rattle.place_index.proofs.Parted.{own_empty}
use Rattle.chain_index.specs.Chains.{chain_of}
use Rattle.chain_index.proofs.table.ChainTable.with_chains.Goals as goal

pub invariant_of-result : goal.invariant_of-result
invariant_of-result c = own_empty (chain_of (length c.loop.chains.items)) 0 c.loop.chains.items c.loop.invariant
