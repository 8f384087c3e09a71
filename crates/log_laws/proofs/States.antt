-- Which states a log represents, and which keys the head's fronts have.
use Rattle.std.proofs.Common.{◌≡◌, ℕ, zero, suc, ◌≤◌, inl, inr, List, [], ◌∷◌, ◌++◌, length, take, refl, sym, ap, ◌∙◌}
use Rattle.std.proofs.Common.{subst, arith, drop, append_assoc}
use Rattle.std.proofs.lemmas.List.{length-map, take_all, take-append-drop}
use Rattle.std.proofs.lemmas.Grind.{flat_map-append}
use Rattle.std.specs.Prelude.{Some, true, false}
use Rattle.std.proofs.lemmas.Bool.{cases_Bool}
use Rattle.entry.specs.declared.entry.Entry.{Entry}
use Rattle.entry.specs.Meaning.{among}
use Rattle.entry.proofs.BagLemmas.{among_left, among_right, among_either}
use Rattle.versioned_map.specs.declared.command.Command.{Command}
use Rattle.versioned_map.specs.declared.command.Record.{Record}
use Rattle.versioned_map.specs.History.{commands_of}
use Rattle.versioned_map.specs.Represents.{Represents}
use Rattle.versioned_map.specs.Versioned.{State, after}
use Rattle.log_laws.specs.Heads.{Start, LogUnit, entries_of}
use Rattle.log_laws.proofs.Counts.{before_end}
use Rattle.log_laws.specs.Text.{Text}
use Rattle.log_laws.specs.Data.{Mode, Calm, Rolls, Mends, Opens, Closes, Repairs, new_of, failover_head_of}
use Rattle.log_laws.specs.Data.{is_failing, is_settled, Head, front_entries, FailData, front, state_after}
use Rattle.log_laws.specs.Data.{state_of, taken_records, durable_of}
use Rattle.log_laws.specs.Log.{Texts, IsBase, AreOfTablets, IsLogged, IsStanding}

-- all records that there are
pub after_all : (d : FailData) → state_after d (length d.history) ≡ state_of d
after_all d =
    let n = length-map d.history (λ (r : Record). r.command) in
    ap (λ (cs : List Command). after d.opening cs)
    (take_all (length d.history) (commands_of d.history) (omega arith))

-- the entries of the first units are among all
pub first_units : (e : Entry) (k : ℕ) (us : List LogUnit) → among (entries_of (take k us)) e → among (entries_of us) e
first_units e zero us m = absurd m
first_units e (suc k) [] m = absurd m
first_units e (suc k) (u ∷ us) m = elim (among_either e u.entries (entries_of (take k us)) m) [
  | inl l ↦ among_left e u.entries (entries_of us) l
  | inr r ↦ among_right e u.entries (entries_of us) (first_units e k us r)
]

pub all_units : (us : List LogUnit) → take (length us) us ≡ us
all_units us = take_all (length us) us (omega arith)

-- the whole front has all units
pub whole_front : (h : Head) → front_entries h (length h.units) ≡ h.loaded ++ entries_of h.units
whole_front h = ap (λ (us : List LogUnit). h.loaded ++ entries_of us) (all_units h.units)

-- what a front lacks comes after it
pub front_rest : (h : Head) (k : ℕ)
    → front_entries h (length h.units) ≡ front_entries h k ++ entries_of (drop k h.units)
front_rest h k =
    whole_front h
    ∙ ap (λ (us : List LogUnit). h.loaded ++ entries_of us) (sym (take-append-drop k h.units))
    ∙ ap (λ (es : List Entry). h.loaded ++ es)
    (flat_map-append (λ (u : LogUnit). u.entries) (take k h.units) (drop k h.units))
    ∙ sym (append_assoc h.loaded (entries_of (take k h.units)) (entries_of (drop k h.units)))

-- the entries of a front are among those of the whole
pub front_among : (e : Entry) (h : Head) (k : ℕ) → among (front_entries h k) e
    → among (h.loaded ++ entries_of h.units) e
front_among e h k m = elim (among_either e h.loaded (entries_of (take k h.units)) m) [
  | inl l ↦ among_left e h.loaded (entries_of h.units) l
  | inr r ↦ among_right e h.loaded (entries_of h.units) (first_units e k h.units r)
]

pub own_entries : (d : FailData) (texts : Texts) → IsLogged d texts
    → (texts.text d.head.start.id).entries ≡ d.head.loaded ++ entries_of d.head.units
own_entries d texts log = ap (λ (t : Text). t.entries) log.text ∙ whole_front d.head

pub front_keys : (d : FailData) (texts : Texts) → IsLogged d texts → (k : ℕ)
    → AreOfTablets d.config (front d.head k).entries
front_keys d texts log k e key m at =
    log.keys d.head.start.id (texts.text d.head.start.id).entries (inl refl) e key
    (subst (λ (es : List Entry). among es e) (sym (own_entries d texts log)) (front_among e d.head k m)) at

-- what the log stands for now
pub present_stands : (d : FailData) (texts : Texts) → IsStanding d texts → (base : List Entry)
    → IsBase texts d.head.start.others base
    → Represents d.head.start.safe (base ++ (d.head.loaded ++ entries_of d.head.units)) (state_of d)
present_stands d texts standing base at =
    let last = standing.fronts (length d.head.units) base (omega arith) at in
    let all = before_end d.head.units (length d.history) (length d.head.units) (omega arith) in
    subst (λ (es : List Entry). Represents d.head.start.safe (base ++ es) (state_of d)) (whole_front d.head)
    (subst (λ (st : State). Represents d.head.start.safe (base ++ front_entries d.head (length d.head.units)) st)
    (ap (state_after d) all ∙ after_all d) last)

-- what is durable all backups of the head took
pub durable_taken : (d : FailData) (texts : Texts) → IsStanding d texts → durable_of d ≤ taken_records d
durable_taken d texts standing = elim (cases_Bool (is_failing d.mode)) as (λ _. durable_of d ≤ taken_records d) [
  | inl fails ↦ (
      let old : durable_of d ≡ d.frozen = rw fails refl in let le = standing.frozen fails in omega arith)
  | inr works ↦ (let old : durable_of d ≡ taken_records d = rw works refl in omega arith)
]

-- a failover's new head is the new head
pub third_is : (mode : Mode) (n : Start) → failover_head_of mode ≡ Some n → new_of mode ≡ Some n
third_is Calm n is = absurd (cc)
third_is (Rolls m) n is = absurd (cc)
third_is Mends n is = absurd (cc)
third_is (Opens m) n is = is
third_is (Closes m) n is = is
third_is Repairs n is = absurd (cc)

-- a master without an open failover has a head that was opened after the last failure
pub settled_if : (mode : Mode) → is_failing mode ≡ false → is_settled mode ≡ true
settled_if Calm works = refl
settled_if (Rolls n) works = refl
settled_if Mends works = absurd (cc)
settled_if (Opens n) works = absurd (cc)
settled_if (Closes n) works = absurd (cc)
settled_if Repairs works = absurd (cc)

abbrev pub no_units : List LogUnit
no_units = []

pub take_none : (k : ℕ) → take k no_units ≡ no_units
take_none zero = refl
take_none (suc k) = refl
