use Rattle.master.proofs.Validity.{valid}
use Rattle.master.proofs.master.Master.show_valid.Goals as goal

pub returns : goal.returns
returns g c = rw (← c.self.view_is) (valid c.self.inside.core (g.F.Fleet.state c.self.inside.fleet) c.self.invariant)
