use Rattle.std.proofs.Common.{◌++◌, take}
use Rattle.place_index.specs.Steps.{IsShuffled}
use Rattle.chain_index.proofs.table.ChainTable.push_all.Given as goal

abbrev pub invariant-loop-held : goal.invariant-loop-held
invariant-loop-held l = IsShuffled (l.initial.self ++ take l.held-index l.places) l.self
