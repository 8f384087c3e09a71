use Rattle.std.proofs.Common.{◌≡◌, Bool, true, false, refl, ap, ◌∙◌}
use Rattle.std.specs.Prelude.{Option, Some, None, is_some, is_none, not}
use Rattle.log_head.specs.declared.next.Next.{Next}
use Rattle.log_head.specs.Next.{IsNextPush}
use Rattle.master_state.specs.declared.failover.Failover.{Failover}
use Rattle.master_state.specs.contracts.state.Core.{the_view}
use Rattle.master_state.specs.Causes.{is_done}
use Rattle.master_state.specs.Data.{MasterData}
use Rattle.master_state.proofs.Refusals.{still_waits, all_pushed}
use Rattle.master_commands.proofs.loading.can_finish.Goals as goal

none_is : (o : Option Failover) → is_some o ≡ false → is_none o ≡ true
none_is None is = refl
none_is (Some f) is = absurd (cc)

-- without a failover all is done just if no push is next
done_is : (d : MasterData) (o : Option Next) (b : Bool) → is_none d.failover ≡ true → IsNextPush d.head o
    → is_some o ≡ not b
    → b ≡ is_done d
done_is d None true calm next test = let done = all_pushed d.head next in rw (calm, done) refl
done_is d None false calm next test = absurd (cc)
done_is d (Some n) true calm next test = absurd (cc)
done_is d (Some n) false calm next test = let waits = still_waits d.head n next in rw (calm, waits) refl

pub returns-then-is_none : goal.returns-then-is_none
returns-then-is_none c =
    rw (← c.core.view_is)
    (done_is (the_view c.core.inside) c.next_push.result c.is_none-then-is_none.result
    (none_is c.core.inside.failover (c.is_none.ensures ∙ ap not c.if-is_none.true)) c.next_push.ensures.next
    c.is_none-then-is_none.ensures)
