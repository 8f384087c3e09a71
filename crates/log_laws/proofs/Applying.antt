-- A command that is applied is in the log, with its unit if it has one.
use Rattle.std.proofs.Common.{◌≡◌, ℕ, suc, ◌≤◌, ◌⊎◌, inl, inr, List, [], ◌∷◌, ◌++◌, length, map, take, refl, sym}
use Rattle.std.proofs.Common.{ap, subst, ◌∙◌, arith, append_assoc}
use Rattle.std.proofs.lemmas.List.{append-nil, length-append, take_all}
use Rattle.entry.specs.declared.entry.Entry.{Entry}
use Rattle.entry.specs.Tablet.{have_key}
use Rattle.versioned_map.specs.declared.command.Record.{Record}
use Rattle.versioned_map.specs.Represents.{Represents}
use Rattle.versioned_map.specs.Versioned.{State, after_command}
use Rattle.versioned_map.proofs.UnitKeys.{unit_key}
use Rattle.versioned_map.proofs.Represented.{unit_added}
use Rattle.log_laws.specs.Heads.{Start, LogUnit, entries_of, records_before}
use Rattle.log_laws.specs.Rising.{Rise}
use Rattle.log_laws.specs.HeadSteps.{with_unit}
use Rattle.log_laws.proofs.Counts.{before_le, before_rise, fewest_rise}
use Rattle.log_laws.proofs.Fronts.{unit_front, unit_entries, unit_rise, unit_counts, unit_longer, state_front}
use Rattle.log_laws.proofs.Fronts.{state_next}
use Rattle.log_laws.specs.Shown.{Shown}
use Rattle.log_laws.specs.Data.{FailData, IsNew, state_after, state_of, everywhere, taken_records}
use Rattle.log_laws.specs.Log.{Texts, IsBase, IsStart, IsLogged, IsMirrored, IsStanding}
use Rattle.log_laws.specs.Steps.{unit_now, applied, MayAppend, MayApply, texts_appended}
use Rattle.log_laws.specs.Laws.{AppliedIsStanding}
use Rattle.log_laws.proofs.Appending.{quiet, listed_at}
use Rattle.log_laws.proofs.States.{after_all, present_stands}
use Rattle.log_laws.proofs.Texts.{base_moves, variant_back}

-- what a command appends may be appended
pub may_append : (d : FailData) (segment : ℕ) (r : Record) → MayApply d segment r → MayAppend d (unit_now d segment r)
may_append d segment r may = record {
  keys = λ x k m at. ap (have_key d.config.tablets) (unit_key x k at (state_of d) segment r.command m) ∙ may.key;
  calm = may.calm;
}

module _ (d : FailData) (texts : Texts) (p : Shown) (segment : ℕ) (r : Record) (log : IsLogged d texts)
    (mir : IsMirrored d texts p) (standing : IsStanding d texts) (may : MayApply d segment r) where
  abbrev id : ℕ
  id = d.head.start.id

  abbrev unit : List Entry
  unit = unit_now d segment r

  abbrev us : List LogUnit
  us = d.head.units

  abbrev number : ℕ
  number = length d.history

  abbrev more : List LogUnit
  more = with_unit us number unit

  abbrev e : FailData
  e = applied d segment r

  abbrev now : Texts
  now = texts_appended d texts unit

  abbrev loaded : List Entry
  loaded = d.head.loaded

  -- if a head is new nothing is appended
  pub none_new : (n : Start) → IsNew d n → unit ≡ []
  none_new = quiet d texts p (d.history ++ r ∷ []) unit log mir (may_append d segment r may)

  pub same_units : unit ≡ [] → length more ≡ length us
  same_units none = ap (λ (u : List Entry). length (with_unit us number u)) none

  history_longer : length (d.history ++ r ∷ []) ≡ suc number
  history_longer = length-append d.history (r ∷ []) ∙ omega arith

  state_applied : state_of e ≡ after_command (state_of d) r.command
  state_applied = state_next d.opening d.history r

  base_before : (n : Start) → (id ≡ n.id) ⊎ IsNew d n → IsStart d.config d.next texts n → (base : List Entry)
      → IsBase now n.others base → IsBase texts n.others base
  base_before n which start base is =
      base_moves now texts n.others (λ s es m variant.
      variant_back texts now s es (record {
        text = listed_at d texts p (d.history ++ r ∷ []) unit log mir (may_append d segment r may) n which start s m;
        images = refl;
      }) variant) base is

  abbrev safe : ℕ
  safe = d.head.start.safe

  old_front : (k : ℕ) (base : List Entry) → k ≤ length us → IsBase texts d.head.start.others base
      → Represents safe (base ++ (loaded ++ entries_of (take k more))) (state_after e (records_before us number k))
  old_front k base le at =
      let within = before_le 0 us number k standing.numbers in
      let now = state_after e (records_before us number k) in
      subst (λ (vs : List LogUnit). Represents safe (base ++ (loaded ++ entries_of vs)) now)
      (sym (unit_front us number unit k le))
      (subst (λ (st : State). Represents safe (base ++ (loaded ++ entries_of (take k us))) st)
      (sym (state_front d.opening d.history r (records_before us number k) within)) (standing.fronts k base le at))

  all_then : state_after e (suc number) ≡ after_command (state_of d) r.command
  all_then = ap (state_after e) (sym history_longer) ∙ after_all e ∙ state_applied

  last_front : (base : List Entry) → IsBase texts d.head.start.others base
      → Represents safe (base ++ (loaded ++ entries_of more)) (state_after e (suc number))
  last_front base at =
      let front = loaded ++ entries_of us in
      let parts : (base ++ front) ++ unit ≡ base ++ (loaded ++ entries_of more) =
      append_assoc base front unit
      ∙ ap (λ (l : List Entry). base ++ l) (append_assoc loaded (entries_of us) unit
      ∙ ap (λ (l : List Entry). loaded ++ l) (sym (unit_entries us number unit))) in
      subst (λ (bag : List Entry). Represents safe bag (state_after e (suc number))) parts
      (subst (λ (st : State). Represents safe ((base ++ front) ++ unit) st) (sym all_then)
      (unit_added safe (base ++ front) (state_of d) segment r.command (present_stands d texts standing base at)))

  fronts_then : (k : ℕ) (base : List Entry) → k ≤ length more → IsBase texts d.head.start.others base
      → Represents safe (base ++ (loaded ++ entries_of (take k more)))
      (state_after e (records_before more (length e.history) k))
  fronts_then k base le at =
      let bag = base ++ (loaded ++ entries_of (take k more)) in
      subst (λ (n : ℕ). Represents safe bag (state_after e (records_before more n k)))
      (sym history_longer)
      (elim (unit_counts us number unit k)
      as (λ _. Represents safe bag (state_after e (records_before more (suc number) k))) [
        | inl old ↦ subst (λ (n : ℕ). Represents safe bag (state_after e n))
            (sym old.1) (old_front k base old.0 at)
        | inr last ↦ subst (λ (n : ℕ). Represents safe bag (state_after e n)) (sym last.1)
            (subst
            (λ (vs : List LogUnit). Represents safe (base ++ (loaded ++ entries_of vs)) (state_after e (suc number)))
            (sym (take_all k more last.0)) (last_front base at))
      ])

  new_then : (n : Start) → IsNew d n → (base : List Entry) → IsBase now n.others base
      → Represents n.safe base (state_of e)
  new_then n is_new base is =
      let old = standing.new n is_new base (base_before n (inr is_new) (log.new n is_new) base is) in
      let none = none_new n is_new in
      subst (λ (bag : List Entry). Represents n.safe bag (state_of e))
      (ap (λ (u : List Entry). base ++ u) none ∙ append-nil base)
      (subst (λ (st : State). Represents n.safe (base ++ unit) st) (sym state_applied)
      (unit_added n.safe base (state_of d) segment r.command old))

  -- nothing that was durable is lost of it
  pub records_grow : taken_records d ≤ taken_records e
  records_grow = elim (unit_counts us number unit (everywhere d)) as (λ _. taken_records d ≤ taken_records e) [
    | inl old ↦ (
        let rise = before_rise 0 more (suc number) (everywhere d) (everywhere e)
        (unit_rise us number unit standing.numbers) wider in
        let same = old.1 in
        let long = ap (λ (n : ℕ). records_before more n (everywhere e)) history_longer in omega arith)
    | inr last ↦ (
        let rise = before_rise 0 more (suc number) (everywhere d) (everywhere e)
        (unit_rise us number unit standing.numbers) wider in
        let same = last.1 in
        let all = before_le 0 us number (everywhere d) standing.numbers in
        let long = ap (λ (n : ℕ). records_before more n (everywhere e)) history_longer in omega arith)
  ] where
    wider : everywhere d ≤ everywhere e
    wider = fewest_rise (length us) (length more) (map d.counts (d.took id)) (unit_longer us number unit)

  applied_standing : IsStanding e now
  applied_standing = record {
    numbers = subst (λ (n : ℕ). Rise 0 more n) (sym history_longer) (unit_rise us number unit standing.numbers);
    fronts = λ k base le is. fronts_then k base le (base_before d.head.start (inl refl) log.head base is);
    new = new_then;
    frozen = λ is. let old = standing.frozen is in let grows = records_grow in omega arith;
  }

pub applied_is_standing : AppliedIsStanding
applied_is_standing d texts p segment r held standing may =
    applied_standing d texts p segment r held.logged held.mirrored standing may
