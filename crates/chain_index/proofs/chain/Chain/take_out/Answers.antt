use Rattle.std.proofs.Common.{List, ◌≡◌, ◌++◌, sym, subst, ◌∙◌}
use Rattle.places.specs.declared.place.Held.{Held}
use Rattle.places.specs.Lists.{without}
use Rattle.place_index.proofs.TakingOut.{without_in_first, without_in_other}
use Rattle.chain_index.proofs.chain.Chain.take_out.Goals as goal

pub returns-then-take_out-clause-taken : goal.returns-then-take_out-clause-taken
returns-then-take_out-clause-taken c =
    let h = c.args.held in
    let front = c.self.inside.front in
    let more = c.self.inside.more.held in
    let new = c.take_out.new.self in
    subst (λ (v : List Held). new ++ more ≡ without h v) c.self.view_is
    (without_in_first h front more new c.take_out.ensures.taken (sym c.take_out.ensures.had ∙ c.if-take_out.true))

pub returns-else-take_out-clause-taken : goal.returns-else-take_out-clause-taken
returns-else-take_out-clause-taken c =
    let h = c.args.held in
    let front = c.self.inside.front in
    let more = c.self.inside.more.held in
    let new = c.take_out.new.self in
    let others = c.leave_out.new.self.held in
    let isnt = sym c.take_out.ensures.had ∙ c.if-take_out.false in
    subst (λ (v : List Held). new ++ others ≡ without h v) c.self.view_is
    (without_in_other h front more new c.take_out.ensures.taken others isnt c.leave_out.ensures.taken)
