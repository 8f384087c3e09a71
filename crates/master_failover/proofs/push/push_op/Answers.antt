use Rattle.std.proofs.Common.{inl, inr, sym, subst, ◌∙◌}
use Rattle.std.proofs.lemmas.Option.{slice_get_within}
use Rattle.std.specs.Prelude.{Some}
use Rattle.log_head.specs.declared.next.Next.{Next}
use Rattle.log_head.specs.declared.next.Next.TheVariants as nexts
use Rattle.log_head.specs.Next.{HasOp}
use Rattle.log_head.proofs.NextOps.{next_has_op}
use Rattle.master_state.specs.contracts.state.Core.{the_view}
use Rattle.master_state.specs.Data.{MasterData}
use Rattle.master_failover.specs.declared.push.Push.{Push}
use Rattle.master_failover.specs.declared.push.Push.TheVariants as push
use Rattle.master_failover.specs.Mending.{IsNextMend, IsNextPushOf}
use Rattle.master_failover.proofs.Sought.{image_some}
use Rattle.master_failover.proofs.push.push_op.Goals as goal

has_op : (d : MasterData) (n : Next) → IsNextPushOf d (Some (push.Head n)) → HasOp d.head n
has_op d n (inl calm) = next_has_op d.head n calm.1
has_op d (nexts.OpenFirst j) (inr next) = tt
has_op d (nexts.Extend j) (inr next) = slice_get_within d.head.taken j next.2.0 next.2.1
has_op d (nexts.OpenWhole j) (inr next) = tt
has_op d (nexts.OpenNew j) (inr next) = next.1
has_op d (nexts.CloseOld j) (inr next) = tt

pub op-requires : goal.op-requires
op-requires c =
    let d : MasterData = the_view c.core.inside in
    has_op d c.in-Head.next (subst (λ (p : Push). IsNextPushOf d (Some p)) c.in-Head.is
    (subst (λ (m : MasterData). IsNextPushOf m (Some c.args.push)) (sym c.core.view_is) c.requires.next))

pub unreachable-requires : goal.unreachable-requires
unreachable-requires c =
    let d : MasterData = the_view c.core.inside in
    let next : IsNextMend d (push.Repair c.in-Repair.segment c.in-Repair.field-1) =
    subst (λ (p : Push). IsNextPushOf d (Some p)) c.in-Repair.is
    (subst (λ (m : MasterData). IsNextPushOf m (Some c.args.push)) (sym c.core.view_is) c.requires.next) in
    image_some d c.core.invariant.2 c.in-Repair.segment c.in-Repair.field-1 next
    (sym c.image_of.ensures ∙ c.in_default.is)
