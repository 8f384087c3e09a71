use Rattle.locked_log.proofs.Stepped.{same_state}
use Rattle.locked_log.proofs.state.State.fault_held.Goals as goal

pub invariant_of-self : goal.invariant_of-self
invariant_of-self g c = same_state _ _ c.fault_at.ensures.same g.B.Naming.made c.self.invariant
