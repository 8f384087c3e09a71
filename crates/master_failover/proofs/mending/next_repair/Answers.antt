use Rattle.std.proofs.Common.{sym, ◌∙◌, subst}
use Rattle.std.specs.Prelude.{Option, IfSome}
use Rattle.master_state.specs.declared.failover.Failover.{Failover}
use Rattle.master_state.specs.Invariant.{IsFailover}
use Rattle.master_failover.proofs.mending.next_repair.Goals as goal

pub unreachable-requires : goal.unreachable-requires
unreachable-requires c =
    let fails = subst (λ (o : Option Failover). IfSome o (IsFailover c.args.core.now)) c.requires.1
    c.show_valid.ensures.failover in
    (fails.repairs c.requires.2).6 (sym c.lost_first.ensures ∙ c.in_default.is)
