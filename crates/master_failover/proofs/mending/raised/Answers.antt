use Rattle.std.proofs.Common.{◌≡◌, [], ◌∷◌, List, sym, ap, subst, ◌∙◌}
use Rattle.std.specs.Prelude.{Option, Some, None, is_some}
use Rattle.master_state.proofs.cleaner.compactor.Ids.{copied_some}
use Rattle.log_head.specs.declared.head.Roll.{Roll}
use Rattle.log_head.specs.log_laws.Heads.{Start}
use Rattle.master_state.specs.contracts.state.Core.{the_view}
use Rattle.master_state.specs.declared.failover.Failover.{Failover}
use Rattle.master_state.specs.declared.failover.Part.TheVariants as part
use Rattle.master_state.specs.declared.ledger.Posting.TheVariants.{Ended}
use Rattle.master_state.specs.Data.{MasterData}
use Rattle.master_state.specs.Invariant.{IsCore}
use Rattle.master_failover.specs.declared.push.Push.TheVariants as push
use Rattle.master_failover.specs.Mending.{IsNextMend, raised_data, with_part}
use Rattle.master_failover.proofs.RaisedCore.{rolling_core, rolling_is, first_core, first_is}
use Rattle.master_failover.proofs.Rolled.{roll_there, roll_none}
use Rattle.master_failover.proofs.mending.raised.Goals as goal

-- ---- a roll goes on

module _ (c : goal.After-go_on) where
  abbrev d : MasterData
  d = the_view c.core.inside

  next : IsNextMend d (push.Raise c.requires.0)
  next = subst (λ (m : MasterData). IsNextMend m (push.Raise c.requires.0)) (sym c.core.view_is) c.requires.1

  there : (r : Roll) × (d.head.roll ≡ Some r)
  there =
      roll_there d.head.roll
      (ap is_some (sym c.roll.ensures) ∙ copied_some c.roll.result ∙ sym c.is_some.ensures ∙ c.if-is_some.true)

  closing : with_part d part.Closes ≡ record d { failover = c.go_on.new.failover }
  closing = ap (λ (o : Option Failover). record d { failover = o }) (sym c.go_on.ensures)

  valid : IsCore (record d { failover = c.go_on.new.failover })
  valid = subst IsCore closing (rolling_core d c.core.invariant.2 c.requires.0 next there.0 there.1)

pub invariant_of-core : goal.invariant_of-core
invariant_of-core c = (c.core.invariant.0, c.core.invariant.1, valid c, c.core.invariant.3, c.core.invariant.4)

pub returns-then-is_some-clause-raised : goal.returns-then-is_some-clause-raised
returns-then-is_some-clause-raised c =
    sym (closing c)
    ∙ sym (rolling_is (d c) c.core.invariant.2 c.requires.0 (next c) (there c).0 (there c).1)
    ∙ ap raised_data c.core.view_is

pub returns-then-is_some-clause-valid : goal.returns-then-is_some-clause-valid
returns-then-is_some-clause-valid c = valid c

-- ---- the first head is in force

module _ (c : goal.After-core-2-1) where
  abbrev k : MasterData
  k = the_view c.core-2.inside

  posted : k ≡ record c.args.core.now { ledger = Ended ∷ c.args.core.now.ledger }
  posted = c.core-2.view_is ∙ c.post.ensures.posted

  waits : IsNextMend k (push.Raise c.requires.0)
  waits = subst (λ (m : MasterData). IsNextMend m (push.Raise c.requires.0)) (sym posted) c.requires.1

  no_roll : k.head.roll ≡ None
  no_roll =
      ap (λ (m : MasterData). m.head.roll) posted
      ∙ ap (λ (m : MasterData). m.head.roll) (sym c.core.view_is)
      ∙ roll_none c.core.inside.head.roll
      (ap is_some (sym c.roll.ensures) ∙ copied_some c.roll.result ∙ sym c.is_some.ensures ∙ c.if-is_some.false)

  gone : record k { failover = None; abandoned = [] }
      ≡ record k { failover = None; abandoned = c.none-core-inside.result.heads }
  gone = ap (λ (heads : List Start). record k { failover = None; abandoned = heads }) (sym c.none-core-inside.ensures)

  first_valid : IsCore (record k { failover = None; abandoned = c.none-core-inside.result.heads })
  first_valid = subst IsCore gone (first_core k c.core-2.invariant.2 c.requires.0 waits no_roll)

  old : IsCore c.args.core.now
  old = subst IsCore c.core.view_is c.core.invariant.2

  first_then : record k { failover = None; abandoned = c.none-core-inside.result.heads } ≡ raised_data c.args.core.now
  first_then =
      sym gone
      ∙ ap (λ (m : MasterData). record m { failover = None; abandoned = [] }) posted
      ∙ sym (first_is c.args.core.now old c.requires.0 c.requires.1 (ap (λ (m : MasterData). m.head.roll) (sym posted)
      ∙ no_roll))

pub invariant_of-core-2 : goal.invariant_of-core-2
invariant_of-core-2 c = (
  c.core-2.invariant.0,
  c.core-2.invariant.1,
  first_valid c,
  c.core-2.invariant.3,
  c.core-2.invariant.4,
)

pub returns-clause-raised : goal.returns-clause-raised
returns-clause-raised c = first_then c

pub returns-clause-valid : goal.returns-clause-valid
returns-clause-valid c = first_valid c
