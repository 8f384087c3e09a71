use Rattle.std.proofs.Common.{sym, subst}
use Rattle.replica.specs.Picture.{FleetState}
use Rattle.master.specs.Invariant.{IsWellKept}
use Rattle.master.proofs.Retired.{limited_kept}
use Rattle.master.proofs.master.Master.limit.Goals as goal

pub invariant_of-self : goal.invariant_of-self
invariant_of-self g c =
    let f : FleetState = g.F.Fleet.state c.self.inside.fleet in
    subst (λ (h : FleetState). IsWellKept c.self.inside.core h) (sym c.limit.ensures)
    (limited_kept c.self.inside.core f c.args.n c.self.invariant)
