use Rattle.std.proofs.Common.{◌≡◌, ℕ, List, None, rules, length, sym, subst, ◌∙◌}
use Rattle.std.specs.Prelude.{Option}
use Rattle.std.proofs.lemmas.Result.{err_from_is_err_and}
use Rattle.entry.specs.declared.key.Key.{Key}
use Rattle.entry.specs.Meaning.{Versioned}
use Rattle.entry.specs.View.{shown_key}
use Rattle.versioned_map.specs.declared.command.Command.TheVariants.{Get}
use Rattle.versioned_map.specs.declared.command.Record.{Record}
use Rattle.master_commands.specs.Change.{found_at, IsPresent}
use Rattle.master_state.specs.contracts.state.Core.{the_view}
use Rattle.master_state.specs.declared.step.StepAnswer.TheVariants.{Applied}
use Rattle.master_state.specs.Causes.{command_refusal}
use Rattle.master_state.specs.Data.{MasterData}
use Rattle.master_state.specs.Invariant.{IsCore}
use Rattle.master_state.specs.Log.{images_of}
use Rattle.master_state.specs.Steps.{reply_now, Applies, MayApplyNow}
use Rattle.master_commands.proofs.Gets.{read_core, read_applies, read_may}
use Rattle.master_commands.proofs.getting.add_get.Goals as goal
use Rattle.master_commands.proofs.getting.add_get.Goals.{After-record_get}

module _ (c : After-record_get) where
  abbrev d : MasterData
  d = the_view c.core.inside

  abbrev k : Key
  k = shown_key c.args.key.now

  abbrev held : Option Versioned
  held = found_at (images_of d) c.args.judged.now.present c.args.judged.now.held.place

  passed : command_refusal d (Get k) ≡ None
  passed = rw (← c.core.view_is) at c.requires.passed

  present : IsPresent d (Get k) c.args.judged.now.present c.args.judged.now.held.place
  present = rw (← c.core.view_is) at c.requires.present

  abbrev records : List Record
  records = c.record_get.new.history.records

  abbrev gone : ℕ
  gone = c.record_get.new.history.forgotten

  same : gone ≡ d.forgotten
  same = c.record_get.ensures.forgotten

  abbrev left : MasterData
  left = record d { history = records; forgotten = gone }

  unchanged : records ≡ d.history → d ≡ left
  unchanged refused = λ i. record d { history = sym refused i; forgotten = sym same i }

pub invariant_of-core-2 : goal.invariant_of-core-2
invariant_of-core-2 c =
    let t = (goal.at.invariant_of-core-2 c).After-record_get in (
      c.core.invariant.0,
      c.core.invariant.1,
      read_core (d t) c.core.invariant.2 (k t) c.args.seat (passed t) (records t) (gone t) (held t)
          c.in_ok-record_get.ensures.added (same t) (present t).stands,
      c.core.invariant.3,
      c.core.invariant.4,
    )

pub returns-clause-added : goal.returns-clause-added
returns-clause-added c =
    let t = (goal.at.returns-clause-added c).After-record_get in
    let number : c.len-place.result ≡ length (d t).history = search rules in
    rw (← c.core.view_is)
    (subst (λ (n : ℕ). Applies (d t) c.args.seat (Get (k t)) (Applied n (reply_now (d t) (Get (k t))))
    (left t)) (sym number)
    (read_applies (d t) c.core.invariant.2 (k t) c.args.seat (passed t) (records t) (gone t) (held t)
    c.in_ok-record_get.ensures.added (same t) (present t).stands))

pub returns-clause-may : goal.returns-clause-may
returns-clause-may c =
    let t = (goal.at.returns-clause-may c).After-record_get in
    subst (λ (m : MasterData). MayApplyNow m c.args.seat (Get (k t))) c.core.view_is
    (read_may (d t) c.core.invariant.2 (k t) c.args.seat (passed t))

pub returns-clause-valid : goal.returns-clause-valid
returns-clause-valid c =
    let t = (goal.at.returns-clause-valid c).After-record_get in
    read_core (d t) c.core.invariant.2 (k t) c.args.seat (passed t) (records t) (gone t) (held t)
    c.in_ok-record_get.ensures.added (same t) (present t).stands

-- ---- the core as it was, where memory was refused

pub invariant_of-core : goal.invariant_of-core
invariant_of-core c =
    let t = (goal.at.invariant_of-core c).After-record_get in (
      c.core.invariant.0,
      c.core.invariant.1,
      subst IsCore (unchanged t c.in_err-record_get.ensures.refused) c.core.invariant.2,
      c.core.invariant.3,
      c.core.invariant.4,
    )

pub returns-in_err-record_get-clause-refused : goal.returns-in_err-record_get-clause-refused
returns-in_err-record_get-clause-refused c =
    let t = (goal.at.returns-in_err-record_get-clause-refused c).After-record_get in
    let failed = err_from_is_err_and c.from_residual.result c.from_residual.ensures.1 in
    rw failed.1 (sym (unchanged t c.in_err-record_get.ensures.refused) ∙ c.core.view_is)
