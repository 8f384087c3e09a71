use Rattle.std.proofs.Common.{◌≡◌, true, sym, ap, subst, refl}
use Rattle.std.specs.Prelude.{IsSome}
use Rattle.log_head.specs.Head.{HeadValue, IsHeadValue}
use Rattle.log_head.specs.Steps.{settled}
use Rattle.master_state.specs.contracts.state.Core.{the_view}
use Rattle.master_state.specs.declared.ledger.Posting.TheVariants as posting
use Rattle.master_state.specs.Causes.{is_done}
use Rattle.master_state.specs.Data.{MasterData}
use Rattle.master_state.specs.Invariant.{AreTallied, IsCore}
use Rattle.master_state.specs.Ledger.{posted}
use Rattle.master_state.specs.Loading.{IsBare, Settles}
use Rattle.master_commands.proofs.LoadedCore.{settled_core, settled_log}
use Rattle.master_commands.proofs.loading.begin_history.Goals as goal
use Rattle.master_commands.proofs.loading.begin_history.Goals.{After-begin_history}

module _ (c : After-begin_history) where
  abbrev d : MasterData
  d = the_view c.core.inside

  bare : IsBare d
  bare = subst IsBare (sym c.core.view_is) c.requires.bare

  done : is_done d ≡ true
  done = subst (λ (m : MasterData). is_done m ≡ true) (sym c.core.view_is) c.requires.done

  head : IsHeadValue (settled d.head)
  head = subst IsHeadValue c.begin_history.ensures.settled c.begin_history.ensures.valid

  abbrev left : MasterData
  left = record d { head = c.begin_history.new.self }

  left_is : record d { head = settled d.head } ≡ left
  left_is = ap (λ (h : HeadValue). record d { head = h }) (sym c.begin_history.ensures.settled)

  core : IsCore left
  core = subst IsCore left_is (settled_core d c.core.invariant.2 done bare head)

  settles : Settles d (posted left posting.Settled)
  settles =
      subst (λ (m : MasterData). Settles d (posted m posting.Settled)) left_is
      (record { log = settled_log d c.core.invariant.2 done bare head; rest = refl })

  roll_then : c.begin_history.new.self.roll ≡ d.head.roll
  roll_then = ap (λ (h : HeadValue). h.roll) c.begin_history.ensures.settled

  tallied : AreTallied left c.core.inside.tallies
  tallied = subst (λ (m : MasterData). AreTallied m c.core.inside.tallies) left_is c.core.invariant.4

pub invariant_of-core : goal.invariant_of-core
invariant_of-core c = (
  λ some. c.core.invariant.0 (subst IsSome (roll_then c) some),
  c.core.invariant.1,
  core c,
  c.core.invariant.3,
  tallied c,
)

pub returns-clause-settled : goal.returns-clause-settled
returns-clause-settled c =
    let t = (goal.at.returns-clause-settled c).After-begin_history in
    subst (λ (m : MasterData). Settles m c.post.new.self) c.core.view_is
    (subst (λ (m : MasterData). Settles (d t) m) (sym c.post.ensures.posted) (settles t))
