-- Units with one more unit at the end, and the states that the first units represent.
use Rattle.std.proofs.Common.{◌≡◌, ℕ, suc, ◌<◌, ◌≤◌, ◌⊎◌, inl, inr, List, [], ◌∷◌, ◌++◌, length, take, refl, sym, ap}
use Rattle.std.proofs.Common.{zero, subst, ◌∙◌, arith, Some}
use Rattle.std.specs.Prelude.{slice_get}
use Rattle.std.proofs.lemmas.Bool.{cases_lt}
use Rattle.std.proofs.lemmas.List.{append-nil, length-append, length-map, map-append, take-append-le}
use Rattle.std.proofs.lemmas.Grind.{flat_map-append}
use Rattle.std.proofs.lemmas.Option.{same_Some}
use Rattle.entry.specs.declared.entry.Entry.{Entry}
use Rattle.entry.specs.Meaning.{among}
use Rattle.entry.proofs.BagLemmas.{among_left, among_right}
use Rattle.versioned_map.specs.declared.command.Command.{Command}
use Rattle.versioned_map.specs.declared.command.Record.{Record}
use Rattle.versioned_map.specs.History.{commands_of}
use Rattle.versioned_map.specs.Versioned.{State, after, after_command}
use Rattle.versioned_map.proofs.Units.{states_pushed}
use Rattle.log_laws.specs.Heads.{LogUnit, Head, entries_of, front_entries, records_before}
use Rattle.log_laws.specs.Rising.{Rise}
use Rattle.log_laws.specs.HeadSteps.{with_unit}
use Rattle.log_laws.proofs.Counts.{rise_more, rise_push, before_within, before_end, before_push}

-- ---- one unit more

module _ (us : List LogUnit) (number : ℕ) where
  pub unit_front : (u : List Entry) (k : ℕ) → k ≤ length us → take k (with_unit us number u) ≡ take k us
  unit_front [] k le = refl
  unit_front (e ∷ es) k le = take-append-le k us (record { number = number; entries = e ∷ es } ∷ []) le

  pub unit_longer : (u : List Entry) → length us ≤ length (with_unit us number u)
  unit_longer [] = omega arith
  unit_longer (e ∷ es) =
      let n = length-append us (record { number = number; entries = e ∷ es } ∷ []) in omega arith

  pub unit_entries : (u : List Entry) → entries_of (with_unit us number u) ≡ entries_of us ++ u
  unit_entries [] = sym (append-nil (entries_of us))
  unit_entries (e ∷ es) =
      flat_map-append (λ (v : LogUnit). v.entries) us (record { number = number; entries = e ∷ es } ∷ [])
      ∙ ap (λ (l : List Entry). entries_of us ++ l) (append-nil (e ∷ es))

  pub unit_rise : (u : List Entry) → Rise 0 us number → Rise 0 (with_unit us number u) (suc number)
  unit_rise [] r = rise_more 0 us number (suc number) (omega arith) r
  unit_rise (e ∷ es) r = rise_push 0 us (record { number = number; entries = e ∷ es }) (suc number) (omega arith) r

  -- a front is an old one with the records that it had, or all with all records
  abbrev pub Either : List Entry → ℕ → Type 0
  Either u k =
      ((k ≤ length us) × (records_before (with_unit us number u) (suc number) k ≡ records_before us number k))
      ⊎ ((length (with_unit us number u) ≤ k) × (records_before (with_unit us number u) (suc number) k ≡ suc number))

  pub unit_counts : (u : List Entry) (k : ℕ) → Either u k
  unit_counts [] k = elim (cases_lt k (length us)) as (λ _. Either [] k) [
    | inl lt ↦ inl (omega arith, before_within us (suc number) number k lt)
    | inr le ↦ inr (le, before_end us (suc number) k le)
  ]
  unit_counts (e ∷ es) k =
      let u : LogUnit = record { number = number; entries = e ∷ es } in
      elim (cases_lt (length us) k) as (λ _. Either (e ∷ es) k) [
        | inl lt ↦ (let n = length-append us (u ∷ []) in
            inr (omega arith, before_end (us ++ u ∷ []) (suc number) k (omega arith)))
        | inr le ↦ inl (le, before_push us u (suc number) k le)
      ]

-- ---- entries

-- a unit that is there is among the first that reach past it
in_units : (us : List LogUnit) (place count : ℕ) (u : LogUnit) (e : Entry) → slice_get us place ≡ Some u
    → place < count → among u.entries e → among (entries_of (take count us)) e
in_units [] place count u e is lt m = absurd (cc)
in_units (v ∷ us) place zero u e is lt m = absurd (omega arith)
in_units (v ∷ us) zero (suc count) u e is lt m =
    among_left e v.entries (entries_of (take count us))
    (subst (λ (x : LogUnit). among x.entries e) (sym (same_Some v u is)) m)
in_units (v ∷ us) (suc place) (suc count) u e is lt m =
    among_right e v.entries (entries_of (take count us)) (in_units us place count u e is (omega arith) m)

-- so it is in the head's front
pub in_front : (h : Head) (place count : ℕ) (u : LogUnit) (e : Entry) → slice_get h.units place ≡ Some u
    → place < count → among u.entries e → among (front_entries h count) e
in_front h place count u e is lt m =
    among_right e h.loaded (entries_of (take count h.units)) (in_units h.units place count u e is lt m)

-- ---- states

-- the state after the first records doesn't change with one more
pub state_front : (opening : State) (records : List Record) (r : Record) (k : ℕ) → k ≤ length records
    → after opening (take k (commands_of (records ++ r ∷ []))) ≡ after opening (take k (commands_of records))
state_front opening records r k le =
    let n = length-map records (λ (x : Record). x.command) in
    ap (λ (cs : List Command). after opening (take k cs))
    (map-append (λ (x : Record). x.command) records (r ∷ []))
    ∙ ap (after opening) (take-append-le k (commands_of records) (r.command ∷ []) (omega arith))

pub state_next : (opening : State) (records : List Record) (r : Record)
    → after opening (commands_of (records ++ r ∷ []))
    ≡ after_command (after opening (commands_of records)) r.command
state_next opening records r =
    ap (after opening) (map-append (λ (x : Record). x.command) records (r ∷ []))
    ∙ (states_pushed opening (commands_of records) r.command).0
