use Rattle.std.proofs.Common.{sym, subst}
use Rattle.replica.specs.Picture.{FleetState}
use Rattle.master.specs.Invariant.{IsWellKept}
use Rattle.master.proofs.master.Master.fault_at.Goals as goal

pub invariant_of-self : goal.invariant_of-self
invariant_of-self g c =
    subst (λ (f : FleetState). IsWellKept c.self.inside.core f) (sym c.fault_at.ensures) c.self.invariant
