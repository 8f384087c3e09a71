use Rattle.std.proofs.Common.{◌≡◌, ◌<◌, ◌∷◌, ◌++◌, [], Bool, ℕ, List, length, true, false, sym, ap, subst, ◌∙◌}
use Rattle.std.specs.Prelude.{if◌then◌else◌}
use Rattle.std.specs.Prelude.{Option}
use Rattle.std.specs.Option.{option_map_or}
use Rattle.std.specs.List.Sorted.{IsStrictlyIncreasing}
use Rattle.entry.specs.Limits.{ids_in, AreLengths}
use Rattle.log_head.specs.Head.{digest_of}
use Rattle.log_head.specs.log_laws.Ids.{all_inserted, without}
use Rattle.master_state.specs.contracts.state.Core.{the_view}
use Rattle.master_state.specs.declared.failover.Failover.{Failover}
use Rattle.master_state.specs.Budget.{is_ready, may_turn, survivors_of, victims_of}
use Rattle.master_state.specs.Data.{MasterData}
use Rattle.master_state.specs.Invariant.{IsCore}
use Rattle.master_state.specs.Steps.{listed_in}
use Rattle.master_state.proofs.SurvivorLens.{entering_listed}
use Rattle.master_rolls.proofs.NextIds.{next_ids, next_rise, others_parts}
use Rattle.master_failover.proofs.Turned.{turned_count}
use Rattle.master_failover.proofs.opening.new_head.Goals as goal
use Rattle.master_failover.proofs.opening.new_head.Goals.{After-as_slice}

module _ (c : After-as_slice) where
  abbrev d : MasterData
  d = the_view c.core.inside

  core : IsCore d
  core = c.core.invariant.2

  ready : is_ready d ≡ c.is_ready-is_commit.result
  ready = ap is_ready c.core.view_is ∙ sym c.is_ready-is_commit.ensures

  enters : c.as_slice.result.now ≡ (if is_ready d then listed_in d.closed (survivors_of d.pass) else [])
  enters =
      c.as_slice.ensures.value ∙ c.in_ok-survivors.ensures
      ∙ (λ i. if sym ready i then listed_in d.closed (survivors_of d.pass) else [])

  ids_are : all_inserted (ids_in c.as_slice.result.now) (without c.leaving_victims.result.now
      (digest_of d.head.image)) ≡ next_ids d d.pass (is_ready d)
  ids_are =
      others_parts d (is_ready d) c.leaving_victims.result.now c.as_slice.result.now
      (c.leaving_victims.ensures ∙ ap (λ (b : Bool). if b then victims_of d.pass else []) (sym ready)) enters

  later : option_map_or (λ (f : Failover). f.is_first) d.failover false ≡ false
  later = ap (λ (o : Option Failover). option_map_or (λ (f : Failover). f.is_first) o false) c.in-Some.is
      ∙ c.if-failover.false

  may : may_turn d ≡ true
  may = ap may_turn c.core.view_is ∙ c.requires.may

pub next_roll-requires-clause-rise : goal.next_roll-requires-clause-rise
next_roll-requires-clause-rise c =
    let a = (goal.at.next_roll-requires-clause-rise c).After-as_slice in
    subst (λ (ids : List ℕ). IsStrictlyIncreasing (ids ++ c.core.inside.next_id ∷ [])) (sym (ids_are a))
    (next_rise (d a) (core a) (is_ready (d a)))

pub next_roll-requires-clause-count : goal.next_roll-requires-clause-count
next_roll-requires-clause-count c =
    let a = (goal.at.next_roll-requires-clause-count c).After-as_slice in
    subst (λ (ids : List ℕ). length ids < 262144) (sym (ids_are a)) (turned_count (d a) (core a) (may a) (later a))

pub next_roll-requires-clause-survivors : goal.next_roll-requires-clause-survivors
next_roll-requires-clause-survivors c =
    let a = (goal.at.next_roll-requires-clause-survivors c).After-as_slice in
    subst AreLengths (sym (enters a)) (entering_listed (d a) (core a) (is_ready (d a)))
