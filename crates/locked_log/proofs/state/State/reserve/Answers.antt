use Rattle.std.proofs.Common.{sym, ◌∙◌, subst}
use Rattle.store_step.specs.master.World.{world}
use Rattle.locked_log.specs.States.{IsState}
use Rattle.locked_log.proofs.state.State.reserve.Goals as goal

pub invariant_of-self : goal.invariant_of-self
invariant_of-self g c =
    subst (λ row. IsState (record {
      world = world g.F.Fleet.state c.self.inside.master;
      book = c.self.inside.book.items;
      total = c.self.inside.total.total;
      start = g.B.Labels.start;
      row = row;
      is_refused = c.self.inside.is_refused;
    }) g.B.Naming.made) (sym c.reserve.ensures) c.self.invariant

pub returns-clause-same : goal.returns-clause-same
returns-clause-same g c =
    (λ i. record {
      master = c.self.inside.master;
      book = c.self.inside.book.items;
      total = c.self.inside.total.total;
      start = g.B.Labels.start;
      row = c.reserve.ensures i;
      is_refused = c.self.inside.is_refused;
    })
    ∙ c.self.view_is

pub returns-clause-valid : goal.returns-clause-valid
returns-clause-valid g c =
    subst (λ row. IsState (record {
      world = world g.F.Fleet.state c.self.inside.master;
      book = c.self.inside.book.items;
      total = c.self.inside.total.total;
      start = g.B.Labels.start;
      row = row;
      is_refused = c.self.inside.is_refused;
    }) g.B.Naming.made) (sym c.reserve.ensures) c.self.invariant
