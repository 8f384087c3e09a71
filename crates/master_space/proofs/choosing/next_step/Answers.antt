use Rattle.std.proofs.Common.{◌∙◌, sym, ap}
use Rattle.std.specs.Prelude.{Some}
use Rattle.std.specs.Option.{is_some}
use Rattle.master_state.specs.Data.{MasterData}
use Rattle.master_space.proofs.choosing.next_step.Goals as goal

pub returns-in-Some-clause-next : goal.returns-in-Some-clause-next
returns-in-Some-clause-next c =
    let calm = ap (λ (m : MasterData). is_some m.failover) (sym c.core.view_is) ∙ sym c.is_some.ensures
    ∙ c.if-is_some.false in
    let there = ap (λ (m : MasterData). m.pass) (sym c.core.view_is) ∙ c.in-Some.is in
    rw (calm, there) (ap Some c.pass_step.ensures)

pub returns-in-None-clause-next : goal.returns-in-None-clause-next
returns-in-None-clause-next c =
    let calm = ap (λ (m : MasterData). is_some m.failover) (sym c.core.view_is) ∙ sym c.is_some.ensures
    ∙ c.if-is_some.false in
    let none = ap (λ (m : MasterData). m.pass) (sym c.core.view_is) ∙ c.in-None.is in
    rw (calm, none) c.step_without.ensures.next
