use Rattle.std.proofs.Common.{Bool, sym, ap, ◌∙◌}
use Rattle.std.specs.Prelude.{not}
use Rattle.master_state.specs.contracts.state.Core.{the_view}
use Rattle.master_state.specs.Causes.{is_head}
use Rattle.master_state.specs.Data.{MasterData}
use Rattle.master_state.proofs.FreeVictims.{out_of_log, one_free}
use Rattle.master_state.proofs.PassIds.{got_listed}
use Rattle.master_space.proofs.victims.check_victim.Goals as goal

pub returns-then-is_none : goal.returns-then-is_none
returns-then-is_none c =
    let d = the_view c.core.inside in
    let older = ap (λ (m : MasterData). is_head m.head c.args.id) c.core.view_is ∙ sym c.is_head.ensures
    ∙ c.if-is_head.false in
    let none = ap (λ (m : MasterData). m.pass) c.core.view_is ∙ c.requires in
    rw (← c.core.view_is) (sym (out_of_log d c.args.before.now c.args.id
    (sym c.contains.ensures.value ∙ c.if-contains.false) older
    (got_listed d c.core.invariant.2 none c.args.id older c.get.result _ c.get.ensures
    (c.is_none.ensures ∙ ap (λ (b : Bool). not b) c.if-is_none.true))))

pub returns : goal.returns
returns c =
    let d = the_view c.core.inside in
    let older = ap (λ (m : MasterData). is_head m.head c.args.id) c.core.view_is ∙ sym c.is_head.ensures
    ∙ c.if-is_head.false in
    let none = ap (λ (m : MasterData). m.pass) c.core.view_is ∙ c.requires in
    rw (← c.core.view_is) (sym (one_free d c.args.before.now c.args.id
    (sym c.contains.ensures.value ∙ c.if-contains.false) older
    (got_listed d c.core.invariant.2 none c.args.id older c.get.result _ c.get.ensures
    (c.is_none.ensures ∙ ap (λ (b : Bool). not b) c.if-is_none.false))))
