use Rattle.std.proofs.Common.{sym, ap, subst, ◌∙◌}
use Rattle.std.specs.Prelude.{IsSome}
use Rattle.log_head.specs.Head.{HeadValue, IsHeadValue}
use Rattle.log_head.specs.declared.next.Next.TheVariants as nexts
use Rattle.master_state.specs.contracts.state.Core.{the_view}
use Rattle.master_state.specs.Data.{MasterData}
use Rattle.master_state.specs.Invariant.{IsCore, AreTallied}
use Rattle.master_failover.specs.declared.push.Push.TheVariants as push
use Rattle.master_failover.specs.Mending.{IsNextMend}
use Rattle.master_failover.proofs.Changed.{replaced_core}
use Rattle.master_failover.proofs.mending.replace.Goals as goal

module _ (c : goal.After-open_whole) where
  abbrev d : MasterData
  d = the_view c.core-2.inside

  next : IsNextMend d (push.Head (nexts.OpenWhole c.args.replica))
  next = subst (λ (m : MasterData). IsNextMend m (push.Head (nexts.OpenWhole c.args.replica)))
      (sym (c.core-2.view_is ∙ c.post_push.ensures.posted)) c.requires

  replaced : IsCore (record d { head = c.open_whole.new.self })
  replaced =
      subst (λ (h : HeadValue). IsCore (record d { head = h })) (sym c.open_whole.ensures.opened)
      (replaced_core d c.core-2.invariant.2 c.args.replica next
      (subst IsHeadValue c.open_whole.ensures.opened c.open_whole.ensures.valid))

pub invariant_of-core : goal.invariant_of-core
invariant_of-core c = (
  λ some. c.core-2.invariant.0 (subst IsSome (ap (λ (h : HeadValue). h.roll) c.open_whole.ensures.opened) some),
  c.core-2.invariant.1,
  replaced c,
  c.core-2.invariant.3,
  subst (λ (h : HeadValue). AreTallied (record (d c) { head = h }) c.core-2.inside.tallies)
      (sym c.open_whole.ensures.opened) c.core-2.invariant.4,
)

pub returns-clause-valid : goal.returns-clause-valid
returns-clause-valid c = replaced c
