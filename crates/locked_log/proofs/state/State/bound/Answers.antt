use Rattle.std.proofs.Common.{◌≤◌, ◌⊎◌, List, length, ap, subst, arith}
use Rattle.versioned_map.specs.declared.command.Record.{Record}
use Rattle.store_step.specs.master.World.{world}
use Rattle.store_step.specs.master.log_laws.Data.{durable_of}
use Rattle.store_step.specs.master.master_state.Log.{log_of}
use Rattle.store_seat.specs.Accounts.{IsOpen, IsSettled}
use Rattle.locked_log.specs.Held.{StateValue}
use Rattle.locked_log.proofs.Applied.{durable_within}
use Rattle.locked_log.proofs.Forgot.{settled_from}
use Rattle.locked_log.proofs.state.State.bound.Goals as goal

pub settled_to-requires-clause-kept : goal.settled_to-requires-clause-kept
settled_to-requires-clause-kept g c =
    omega (arith, c.max-from.ensures, c.forgotten.ensures, c.history.ensures.forgotten)

pub settled_to-requires-clause-durable : goal.settled_to-requires-clause-durable
settled_to-requires-clause-durable g c =
    omega (
      arith,
      durable_within (world g.F.Fleet.state c.self.inside.master) c.show_kept.ensures,
      c.durable-durable.ensures.count,
      ap (λ (l : List Record). length l) c.history.ensures.records,
    )

pub returns-clause-settled : goal.returns-clause-settled
returns-clause-settled g c =
    let s = c.self.inside in
    let late = subst (λ (l : List Record). IsSettled c.max-from.result s.book.items l c.settled_to.result)
    c.history.ensures.records c.settled_to.ensures.settled in
    subst (λ (y : StateValue _). IsSettled y.start y.book y.master.knows.history c.settled_to.result) c.self.view_is
    (settled_from g.B.Labels.start s.master.knows.forgotten c.max-from.result c.settled_to.result s.book.items
    s.master.knows.history (omega (arith, c.max-from.ensures, c.forgotten.ensures, c.start.ensures))
    c.self.invariant.settled late)

pub returns-clause-near : goal.returns-clause-near
returns-clause-near g c =
    let s = c.self.inside in
    let here = subst (λ (l : List Record). IsOpen s.book.items l c.settled_to.result
    ⊎ (durable_of (log_of s.master.knows) ≤ c.settled_to.result))
    c.history.ensures.records
    (subst (λ n. IsOpen s.book.items c.history.result.now.records c.settled_to.result ⊎ (n ≤ c.settled_to.result))
    c.durable-durable.ensures.count c.settled_to.ensures.near) in
    subst (λ (y : StateValue _). IsOpen y.book y.master.knows.history c.settled_to.result
    ⊎ (durable_of (log_of y.master.knows) ≤ c.settled_to.result)) c.self.view_is here
