use Rattle.std.proofs.Common.{List, ◌++◌, subst}
use Rattle.places.specs.declared.place.Held.{Held}
use Rattle.place_index.specs.Steps.{IsShuffled}
use Rattle.place_index.proofs.Parted.{shuffled_part}
use Rattle.chain_index.proofs.table.ChainTable.push_table.Goals as goal

pub loop-chain-preserved : goal.loop-chain-preserved
loop-chain-preserved c =
    let d = c.chain-item.result in
    let one = subst (λ (xs : List Held). IsShuffled (c.loop-chain.self ++ xs) c.push_chain.new.self)
    c.chain-item.is c.in_ok-push_chain.ensures in
    shuffled_part c.args.self.now c.loop-chain.self c.push_chain.new.self c.deref-chain-items.result.now
    c.loop-chain.chain-index d
    c.loop-chain-test.true c.loop-chain.invariant one
