use Rattle.master_state.specs.contracts.state.Core.{the_view}
use Rattle.master_state.proofs.Posted.{posted_core}
use Rattle.master_state.proofs.state.Core.post.Goals as goal

pub invariant_of-self : goal.invariant_of-self
invariant_of-self c = (
  c.self.invariant.0,
  c.self.invariant.1,
  posted_core (the_view c.self.inside) c.with-self-inside.result.postings c.self.invariant.2,
  c.self.invariant.3,
  c.self.invariant.4,
)

pub returns-clause-valid : goal.returns-clause-valid
returns-clause-valid c = posted_core (the_view c.self.inside) c.with-self-inside.result.postings c.self.invariant.2
