use Rattle.std.proofs.Common.{inl}
use Rattle.master.proofs.master.Master.push.Goals as goal

pub push-requires : goal.push-requires
push-requires g c = record { served = inl c.self.invariant }

pub invariant_of-self : goal.invariant_of-self
invariant_of-self g c = c.push.ensures.served.0 c.self.invariant

pub returns-clause-accepted : goal.returns-clause-accepted
returns-clause-accepted g c = rw (← c.self.view_is) c.push.ensures.accepted

pub returns-clause-refused : goal.returns-clause-refused
returns-clause-refused g c = rw (← c.self.view_is) c.push.ensures.refused
