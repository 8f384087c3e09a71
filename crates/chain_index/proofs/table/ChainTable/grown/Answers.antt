use Rattle.std.proofs.Common.{List, ◌++◌, subst}
use Rattle.places.specs.declared.place.Held.{Held}
use Rattle.place_index.specs.Steps.{IsShuffled}
use Rattle.chain_index.proofs.table.ChainTable.grown.Goals as goal

pub returns : goal.returns
returns c =
    subst (λ (xs : List Held). IsShuffled (xs ++ c.args.self.now) c.push_table.new.self)
    c.in_ok-grown.ensures c.in_ok-push_table.ensures
