use Rattle.std.proofs.Common.{List, ◌≡◌, ◌++◌, sym, subst, ◌∙◌}
use Rattle.places.specs.declared.place.Held.{Held}
use Rattle.places.specs.Lists.{relocated_in}
use Rattle.place_index.proofs.TwoLists.{relocated_in_first, relocated_in_other}
use Rattle.chain_index.proofs.chain.Chain.relocate.Goals as goal

pub returns-then-relocate-clause-moved : goal.returns-then-relocate-clause-moved
returns-then-relocate-clause-moved c =
    let h = c.args.held in
    let to = c.args.to in
    let front = c.self.inside.front in
    let more = c.self.inside.more.held in
    let new = c.relocate.new.self in
    subst (λ (v : List Held). new ++ more ≡ relocated_in h to v) c.self.view_is
    (relocated_in_first h to front more new (sym c.relocate.ensures.had ∙ c.if-relocate.true) c.relocate.ensures.moved)

pub returns-else-relocate-clause-moved : goal.returns-else-relocate-clause-moved
returns-else-relocate-clause-moved c =
    let h = c.args.held in
    let to = c.args.to in
    let front = c.self.inside.front in
    let more = c.self.inside.more.held in
    let new = c.relocate.new.self in
    let others = c.put.new.self.held in
    let isnt = sym c.relocate.ensures.had ∙ c.if-relocate.false in
    subst (λ (v : List Held). new ++ others ≡ relocated_in h to v) c.self.view_is
    (relocated_in_other h to front more new others isnt c.relocate.ensures.moved c.put.ensures.moved)
