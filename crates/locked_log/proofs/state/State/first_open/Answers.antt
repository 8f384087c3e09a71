use Rattle.std.proofs.Common.{sym, subst, arith}
use Rattle.store_seat.specs.Accounts.{IsSettled}
use Rattle.locked_log.specs.Held.{StateValue}
use Rattle.locked_log.proofs.Anew.{settled_below}
use Rattle.locked_log.proofs.state.State.first_open.Goals as goal

pub returns-clause-settled : goal.returns-clause-settled
returns-clause-settled g c =
    let s = c.self.inside in
    let late = subst (λ (y : StateValue _). IsSettled y.start y.book y.master.knows.history c.bound-least.result)
    (sym c.self.view_is) c.bound-least.ensures.settled in
    subst (λ (y : StateValue _). IsSettled y.start y.book y.master.knows.history c.max-first.result) c.self.view_is
    (settled_below g.B.Labels.start s.master.knows.forgotten c.bound-least.result c.max-first.result s.book.items
    s.master.knows.history
    (omega (
      arith,
      c.max-first.ensures,
      c.max-kept.ensures,
      c.min-open_at.ensures,
      c.forgotten.ensures,
      c.start.ensures,
    ))
    c.self.invariant.settled late)
