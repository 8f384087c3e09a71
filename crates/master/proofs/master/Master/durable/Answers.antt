use Rattle.std.proofs.Common.{◌∙◌}
use Rattle.master.proofs.Counting.{kept_unfailed, counted}
use Rattle.master.proofs.Validity.{valid}
use Rattle.master.proofs.master.Master.durable.Goals as goal

pub returns-clause-count : goal.returns-clause-count
returns-clause-count g c =
    let d = c.self.inside.core in
    let kept = c.self.invariant in
    rw (← c.self.view_is) (c.durable.ensures ∙ counted d kept.core kept.placed
    (kept_unfailed d (g.F.Fleet.state c.self.inside.fleet) kept.kept))

pub returns-clause-valid : goal.returns-clause-valid
returns-clause-valid g c = rw (← c.self.view_is) (valid c.self.inside.core
    (g.F.Fleet.state c.self.inside.fleet) c.self.invariant)
