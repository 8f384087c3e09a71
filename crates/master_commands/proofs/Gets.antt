-- A get that no test refuses is added to a core: of its data only the history changes.
use Rattle.std.proofs.Common.{◌≡◌, ℕ, List, [], ◌∷◌, ◌++◌, Option, None, length, refl, sym, ap, subst, ◌∙◌}
use Rattle.entry.specs.declared.key.Key.{Key}
use Rattle.entry.specs.declared.entry.Entry.TheVariants as entry
use Rattle.entry.specs.Meaning.{Versioned}
use Rattle.versioned_map.specs.declared.command.Command.TheVariants.{Get}
use Rattle.versioned_map.specs.declared.command.Record.{Record}
use Rattle.versioned_map.specs.Versioned.{found}
use Rattle.master_commands.specs.declared.change.Change.TheVariants as change
use Rattle.master_commands.specs.Change.{IsJudged}
use Rattle.master_state.specs.declared.step.StepAnswer.TheVariants.{Applied}
use Rattle.master_state.specs.Causes.{command_refusal, dead_segment}
use Rattle.master_state.specs.Data.{MasterData}
use Rattle.master_state.specs.Invariant.{IsCore}
use Rattle.master_state.specs.Log.{held_now}
use Rattle.master_state.specs.Steps.{reply_now, record_now, Applies, MayApplyNow}
use Rattle.master_commands.proofs.Changes.{front_of_none}
use Rattle.master_commands.proofs.Adding.{IsPlaced, may, added_core, added_applies}

module _ (d : MasterData) (core : IsCore d) (k : Key) (seat : ℕ) (passed : command_refusal d (Get k) ≡ None) where
  judged : IsJudged d (Get k) change.Nothing (dead_segment d (Get k))
  judged = record {
    lies = refl;
    change_of = record {
      unit = λ segment. refl;
      safe_after = refl;
      nothing = λ segment. refl;
      not_spent = refl;
      live =
          λ live. refl;
    };
  }

  nowhere : IsPlaced d (Get k) change.Nothing 0
  nowhere segment front o is = absurd (front_of_none front (entry.Object o) is)

  abbrev read : MasterData
  read = record d { history = d.history ++ record_now d seat (Get k) ∷ [] }

  abbrev pub with_found : Option Versioned → List Record
  with_found x = d.history ++ record { seat = seat; command = Get k; reply = found x } ∷ []

  module _ (new : List Record) (gone : ℕ) (x : Option Versioned) (added : new ≡ with_found x)
      (same : gone ≡ d.forgotten) (is : x ≡ held_now d (Get k)) where
    abbrev pub left : MasterData
    left = record d { history = new; forgotten = gone }

    knows : read ≡ left
    knows = λ i. record d { history = sym (added ∙ ap with_found is) i; forgotten = sym same i }

    pub read_core : IsCore left
    read_core =
        subst IsCore knows
        (added_core d core (Get k) change.Nothing (dead_segment d (Get k)) judged seat 0 d.index passed nowhere refl
        core.head)

    pub read_applies : Applies d seat (Get k) (Applied (length d.history) (reply_now d (Get k))) left
    read_applies =
        subst (λ (m : MasterData). Applies d seat (Get k) (Applied (length d.history) (reply_now d (Get k))) m) knows
        (added_applies d core (Get k) change.Nothing (dead_segment d (Get k)) judged seat 0 d.index passed nowhere refl
        core.head)

  pub read_may : MayApplyNow d seat (Get k)
  read_may =
      may d core (Get k) change.Nothing (dead_segment d (Get k)) judged seat 0 d.index passed nowhere refl core.head
