use Rattle.std.proofs.Common.{◌++◌, take}
use Rattle.place_index.specs.Steps.{IsShuffled}
use Rattle.place_index.specs.Parted.{places_in}
use Rattle.chain_index.proofs.table.ChainTable.push_table.Given as goal

abbrev pub invariant-loop-chain : goal.invariant-loop-chain
invariant-loop-chain l = IsShuffled (l.initial.self ++ places_in (take l.chain-index l.chain-items)) l.self
