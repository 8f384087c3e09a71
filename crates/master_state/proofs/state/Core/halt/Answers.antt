use Rattle.master_state.specs.contracts.state.Core.{the_view}
use Rattle.master_state.proofs.Posted.{halted_core}
use Rattle.master_state.proofs.state.Core.halt.Goals as goal

pub invariant_of-self : goal.invariant_of-self
invariant_of-self c = (
  c.self.invariant.0,
  c.self.invariant.1,
  halted_core (the_view c.self.inside) c.self.invariant.2,
  c.self.invariant.3,
  c.self.invariant.4,
)

pub returns-clause-valid : goal.returns-clause-valid
returns-clause-valid c = halted_core (the_view c.self.inside) c.self.invariant.2
