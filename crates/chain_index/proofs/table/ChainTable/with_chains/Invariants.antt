use Rattle.std.proofs.Common.{◌≡◌, []}
use Rattle.place_index.specs.Parted.{places_in}
use Rattle.chain_index.proofs.table.ChainTable.with_chains.Given as goal

abbrev pub invariant-loop : goal.invariant-loop
invariant-loop l = places_in l.chains.items ≡ []
