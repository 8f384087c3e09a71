use Rattle.std.proofs.Common.{sym, ap, subst, ◌∙◌}
use Rattle.std.specs.Prelude.{IsSome}
use Rattle.log_head.specs.Head.{HeadValue, IsHeadValue}
use Rattle.log_head.specs.declared.next.Next.TheVariants as nexts
use Rattle.master_state.specs.contracts.state.Core.{the_view}
use Rattle.master_state.specs.Data.{MasterData}
use Rattle.master_state.specs.Invariant.{IsCore, AreTallied}
use Rattle.master_failover.specs.declared.push.Push.TheVariants as push
use Rattle.master_failover.specs.Mending.{IsNextMend}
use Rattle.master_failover.proofs.Changed.{extended_core}
use Rattle.master_failover.proofs.mending.extend.Goals as goal

module _ (c : goal.After-extend) where
  abbrev d : MasterData
  d = the_view c.core-2.inside

  next : IsNextMend d (push.Head (nexts.Extend c.args.replica))
  next = subst (λ (m : MasterData). IsNextMend m (push.Head (nexts.Extend c.args.replica)))
      (sym (c.core-2.view_is ∙ c.post_push.ensures.posted)) c.requires

  extended : IsCore (record d { head = c.extend.new.self })
  extended =
      subst (λ (h : HeadValue). IsCore (record d { head = h })) (sym c.extend.ensures.extended)
      (extended_core d c.core-2.invariant.2 c.args.replica next
      (subst IsHeadValue c.extend.ensures.extended c.extend.ensures.valid))

pub invariant_of-core : goal.invariant_of-core
invariant_of-core c = (
  λ some. c.core-2.invariant.0 (subst IsSome (ap (λ (h : HeadValue). h.roll) c.extend.ensures.extended) some),
  c.core-2.invariant.1,
  extended c,
  c.core-2.invariant.3,
  subst (λ (h : HeadValue). AreTallied (record (d c) { head = h }) c.core-2.inside.tallies)
      (sym c.extend.ensures.extended) c.core-2.invariant.4,
)

pub returns-clause-valid : goal.returns-clause-valid
returns-clause-valid c = extended c
