use Rattle.std.proofs.Common.{inl, refl, sym, ap, ◌∙◌}
use Rattle.std.specs.Prelude.{is_some}
use Rattle.master_core.specs.master_state.Data.{MasterData}
use Rattle.master.proofs.InForce.{none_open}
use Rattle.master.proofs.PushedFor.{is_counted, awaits}
use Rattle.master.proofs.pushing.push_unless_durable.Goals.{in-Ok, in-Err}
use Rattle.master.proofs.pushing.push_unless_durable.Goals as goal

pub returns-in_default-clause-gives : goal.returns-in_default-clause-gives
returns-in_default-clause-gives g c =
    let calm = none_open c.args.core.now.failover (sym (ap (λ (m : MasterData). is_some m.failover) c.core.view_is)
    ∙ sym c.is_some.ensures ∙ c.if-is_some.false) in (
      is_counted c.args.core.now (g.F.Fleet.state c.args.fleet.now) c.args.place c.requires.within c.requires.served
          (sym (c.in_default.ensures.durable calm)),
      refl,
    )

pub returns-then-is_halted-clause-gives : goal.returns-then-is_halted-clause-gives
returns-then-is_halted-clause-gives g c =
    let calm = none_open c.args.core.now.failover (sym (ap (λ (m : MasterData). is_some m.failover) c.core.view_is)
    ∙ sym c.is_some.ensures ∙ c.if-is_some.false) in (
      awaits c.args.core.now (g.F.Fleet.state c.args.fleet.now) c.args.place c.requires.within c.requires.served
          (sym (c.in-Some.ensures.durable calm)),
      inl (rw (sym c.is_halted.ensures ∙ c.if-is_halted.true) refl, refl),
    )

pub hand-requires-clause-next : goal.hand-requires-clause-next
hand-requires-clause-next g c = inl (
  none_open c.args.core.now.failover (sym (ap (λ (m : MasterData). is_some m.failover) c.core.view_is)
      ∙ sym c.is_some.ensures ∙ c.if-is_some.false),
  c.in-Some.ensures.next,
)

pub returns-clause-gives : goal.returns-clause-gives
returns-clause-gives g c =
    let calm = none_open c.args.core.now.failover (sym (ap (λ (m : MasterData). is_some m.failover) c.core.view_is)
    ∙ sym c.is_some.ensures ∙ c.if-is_some.false) in
    let awaited = awaits c.args.core.now (g.F.Fleet.state c.args.fleet.now) c.args.place c.requires.within
    c.requires.served (sym (c.in-Some.ensures.durable calm)) in
    elim c.match-hand.branch [
      | in-Ok w ↦ rw w.result-is (awaited, _, w.in-Ok.ensures.accepted)
      | in-Err w ↦ rw w.result-is (awaited, w.in-Err.ensures.refused)
    ]
