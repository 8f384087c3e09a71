use Rattle.std.proofs.Common.{inr}
use Rattle.master.specs.World.{world_of}
use Rattle.master.proofs.KeptLoading.{push_keeps}
use Rattle.master.proofs.loading.Loading.push.Goals as goal

pub push-requires : goal.push-requires
push-requires g c = record { served = inr c.self.invariant }

pub invariant_of-self : goal.invariant_of-self
invariant_of-self g c = c.push.ensures.served.1 c.self.invariant

pub returns-clause-accepted : goal.returns-clause-accepted
returns-clause-accepted g c = rw (← c.self.view_is) c.push.ensures.accepted

pub returns-clause-refused : goal.returns-clause-refused
returns-clause-refused g c = rw (← c.self.view_is) c.push.ensures.refused

pub returns-clause-keeps : goal.returns-clause-keeps
returns-clause-keeps g c =
    rw (← c.self.view_is) (push_keeps (world_of c.self.inside.core (g.F.Fleet.state c.self.inside.fleet))
    (world_of c.push.new.core (g.F.Fleet.state c.push.new.fleet)) c.push.result c.push.ensures.accepted
    c.push.ensures.refused)
