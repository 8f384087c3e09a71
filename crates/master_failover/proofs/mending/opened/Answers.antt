use Rattle.std.proofs.Common.{◌≡◌, suc, refl, sym, ap, subst, ◌∙◌}
use Rattle.std.specs.Prelude.{Option, Some, IsSome, IfSome, is_some}
use Rattle.master_state.proofs.cleaner.compactor.Ids.{copied_some}
use Rattle.log_head.specs.declared.head.Roll.{Roll}
use Rattle.log_head.specs.Head.{HeadValue, IsHeadValue}
use Rattle.log_head.specs.Steps.{with_new_replica}
use Rattle.master_state.specs.contracts.state.Core.{the_view}
use Rattle.master_state.specs.Data.{MasterData}
use Rattle.master_state.specs.Invariant.{IsCore, AreTallied}
use Rattle.master_failover.specs.Mending.{IsNextOpen}
use Rattle.master_failover.proofs.Changed.{opened_core}
use Rattle.master_failover.proofs.Rolled.{counting_tallied, new_opened_core, roll_there}
use Rattle.master_failover.proofs.mending.opened.Goals as goal

-- ---- the new head of a roll

module _ (c : goal.After-open_new) where
  abbrev d : MasterData
  d = the_view c.core.inside

  next : IsNextOpen d c.args.replica
  next = subst (λ (m : MasterData). IsNextOpen m c.args.replica)
      (sym (c.core.view_is ∙ c.post.ensures.posted)) c.requires

  there : (r : Roll) × (d.head.roll ≡ Some r)
  there =
      roll_there d.head.roll
      (ap is_some (sym c.roll.ensures) ∙ copied_some c.roll.result ∙ sym c.is_some.ensures ∙ c.if-is_some.true)

  new_opened : c.open_new.new.self ≡ with_new_replica d.head there.0
  new_opened = subst (λ (o : Option Roll). IfSome o (λ r. c.open_new.new.self ≡ with_new_replica d.head r)) there.1
      c.open_new.ensures.opened

  opened : IsCore (record d { head = c.open_new.new.self })
  opened =
      subst (λ (h : HeadValue). IsCore (record d { head = h })) (sym new_opened)
      (new_opened_core d c.core.invariant.2 there.0 there.1 c.args.replica next
      (subst IsHeadValue new_opened c.open_new.ensures.valid))

pub invariant_of-core : goal.invariant_of-core
invariant_of-core c = (
  λ some. c.core.invariant.0 (subst IsSome (sym (there c).1) refl),
  c.core.invariant.1,
  opened c,
  c.core.invariant.3,
  subst (λ (h : HeadValue). AreTallied (record (d c) { head = h }) c.core.inside.tallies) (sym (new_opened c))
      (counting_tallied (d c) (there c).0 (suc (there c).0.opened) (there c).0.closed c.core.inside.tallies (there c).1
      c.core.invariant.4),
)

pub returns-then-is_some-clause-valid : goal.returns-then-is_some-clause-valid
returns-then-is_some-clause-valid c = opened c

-- ---- the first head

module _ (c : goal.After-open) where
  abbrev m : MasterData
  m = the_view c.core.inside

  waits : IsNextOpen m c.args.replica
  waits = subst (λ (x : MasterData). IsNextOpen x c.args.replica)
      (sym (c.core.view_is ∙ c.post.ensures.posted)) c.requires

  first_opened : IsCore (record m { head = c.open.new.self })
  first_opened =
      subst (λ (h : HeadValue). IsCore (record m { head = h })) (sym c.open.ensures.opened)
      (opened_core m c.core.invariant.2 c.args.replica waits
      (subst IsHeadValue c.open.ensures.opened c.open.ensures.valid))

pub invariant_of-core-else-is_some : goal.invariant_of-core-else-is_some
invariant_of-core-else-is_some c = (
  λ some. c.core.invariant.0 (subst IsSome (ap (λ (h : HeadValue). h.roll) c.open.ensures.opened) some),
  c.core.invariant.1,
  first_opened c,
  c.core.invariant.3,
  subst (λ (h : HeadValue). AreTallied (record (m c) { head = h }) c.core.inside.tallies)
      (sym c.open.ensures.opened) c.core.invariant.4,
)

pub returns-else-is_some-clause-valid : goal.returns-else-is_some-clause-valid
returns-else-is_some-clause-valid c = first_opened c
