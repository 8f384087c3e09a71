use Rattle.locked_log.proofs.Anew.{owned_open, paused_is, settled_here}
use Rattle.locked_log.proofs.Opened.{served}
use Rattle.locked_log.proofs.Writing.{row_whole}
use Rattle.locked_log.proofs.store.Store.pause.Goals as goal

pub invariant_of-paused : goal.invariant_of-paused
invariant_of-paused g c = paused_is g.F.Fleet.state _ _ c.state.view_is g.B.Naming.made c.state.invariant
    c.first_open-start.result c.first_open-start.ensures.least c.first_open-start.ensures.within
    c.first_open-start.ensures.kept c.first_open-start.ensures.settled

pub returns-clause-row : goal.returns-clause-row
returns-clause-row g c = row_whole _ _ c.state.inside.is_refused c.state.invariant.written c.if-is_refused.false

pub returns-clause-served : goal.returns-clause-served
returns-clause-served g c = λ k m at. served _ g.B.Naming.made m c.state.invariant
    (c.are_known-are_known.ensures c.if-not-are_known.false k m at)

pub returns-clause-settled : goal.returns-clause-settled
returns-clause-settled g c = settled_here g.F.Fleet.state _ _ c.state.view_is g.B.Naming.made c.state.invariant
    c.first_open-start.result c.first_open-start.ensures.least c.first_open-start.ensures.within
    c.first_open-start.ensures.kept c.first_open-start.ensures.settled

pub returns-clause-kept : goal.returns-clause-kept
returns-clause-kept g c = λ k m at.
    let known = c.are_known-are_known.ensures c.if-not-are_known.false k m at in (
      known,
      λ place owned. owned_open g.B.Labels.start c.state.inside.book.items c.state.inside.master.knows.history
          c.first_open-start.result m place
          (settled_here g.F.Fleet.state _ _ c.state.view_is g.B.Naming.made c.state.invariant
          c.first_open-start.result c.first_open-start.ensures.least c.first_open-start.ensures.within
          c.first_open-start.ensures.kept c.first_open-start.ensures.settled)
          known owned,
    )
