use Rattle.std.proofs.Common.{ap, ◌∙◌}
use Rattle.std.specs.Prelude.{min}
use Rattle.master_state.specs.contracts.state.Core.{the_view}
use Rattle.master_state.specs.Data.{MasterData}
use Rattle.master_state.proofs.Forgetting.{forgot_core, forgot_tallied, forgot_to}
use Rattle.master_state.proofs.state.Core.forget.Goals as goal

pub invariant_of-self : goal.invariant_of-self
invariant_of-self c =
    let d : MasterData = the_view c.self.inside in
    let room = c.self.inside.history.room in (
      c.self.invariant.0,
      c.self.invariant.1,
      forgot_core d room c.min-most.result c.forget.new.self c.forget.ensures c.self.invariant.2,
      c.self.invariant.3,
      forgot_tallied d room c.min-most.result c.forget.new.self c.forget.ensures c.self.inside.tallies
          c.self.invariant.4,
    )

pub returns-clause-forgets : goal.returns-clause-forgets
returns-clause-forgets c =
    let d : MasterData = the_view c.self.inside in
    let most = c.min-most.ensures ∙ ap (min c.args.n) c.durable.ensures in
    rw (← c.self.view_is) (forgot_to d c.self.inside.history.room c.min-most.result c.forget.new.self c.forget.ensures
    c.args.n (rw (← c.self.view_is) at most))

pub returns-clause-valid : goal.returns-clause-valid
returns-clause-valid c =
    let d : MasterData = the_view c.self.inside in
    forgot_core d c.self.inside.history.room c.min-most.result c.forget.new.self c.forget.ensures c.self.invariant.2
