use Rattle.std.proofs.Common.{Vec, Global}
use Rattle.entry.specs.declared.tablet.Size.{Size}
use Rattle.master.proofs.SizeTablets.{in_tablets}
use Rattle.master.proofs.master.Master.sizes.Goals as goal

pub returns-clause-tablets : goal.returns-clause-tablets
returns-clause-tablets g c =
    rw (← c.self.view_is) (in_tablets (λ (v : Vec Size Global). v.items) c.self.inside.core
    (g.F.Fleet.state c.self.inside.fleet) c.self.invariant c.sorted_sizes.result c.sorted_sizes.ensures)
