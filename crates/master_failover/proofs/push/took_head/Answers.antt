use Rattle.std.proofs.Common.{Bool, sym, ap, ◌∙◌}
use Rattle.std.specs.Prelude.{is_some, not}
use Rattle.master_state.specs.Data.{MasterData}
use Rattle.master_failover.specs.declared.push.Push.TheVariants as push
use Rattle.master_failover.proofs.PushKinds.{mends_as}
use Rattle.master_failover.proofs.push.took_head.Goals as goal

pub returns-clause-taken : goal.returns-clause-taken
returns-clause-taken c =
    c.mended.ensures.mended
    ∙ sym (mends_as c.args.core.now (push.Head c.args.next)
    (sym (ap (λ (m : MasterData). is_some m.failover) c.core.view_is) ∙ c.is_none.ensures
    ∙ ap (λ (b : Bool). not b) c.if-is_none.false))
