-- The backups hold the log's texts once a unit is appended to the head.
use Rattle.std.proofs.Common.{◌≡◌, ℕ, ◌≤◌, ◌⊎◌, inl, inr, true, List, [], ◌∷◌, ◌++◌, length, Some, refl, sym, ap, subst}
use Rattle.std.proofs.Common.{◌∙◌, arith, append_assoc}
use Rattle.std.specs.Prelude.{None, IsSome}
use Rattle.std.proofs.lemmas.Bool.{cases_eq}
use Rattle.std.proofs.lemmas.List.{append-nil}
use Rattle.entry.specs.declared.entry.Entry.{Entry}
use Rattle.entry.specs.Bag.{IsAmong}
use Rattle.entry.proofs.BagLemmas.{among_push}
use Rattle.versioned_map.specs.declared.command.Record.{Record}
use Rattle.log_laws.specs.Heads.{Start, LogUnit, entries_of}
use Rattle.log_laws.specs.HeadSteps.{with_unit}
use Rattle.log_laws.proofs.Fronts.{unit_front, unit_entries, unit_longer}
use Rattle.log_laws.proofs.IdLists.{below_at}
use Rattle.log_laws.specs.Text.{Text, Replica}
use Rattle.log_laws.specs.Shown.{Shown}
use Rattle.log_laws.specs.Data.{front, front_entries, FailData, HasTaken, new_of, is_failing, is_settled, IsNew}
use Rattle.log_laws.specs.Log.{Texts, IsVariant, AreOfTablets, IsStart, IsLogged, IsReplica, IsMirrored}
use Rattle.log_laws.specs.Steps.{with_appended, MayAppend, texts_appended}
use Rattle.log_laws.specs.Laws.{AppendedIsHeld}
use Rattle.log_laws.proofs.Choices.{both_of_tablets}
use Rattle.log_laws.proofs.Lengths.{lens_each}
use Rattle.log_laws.proofs.Lists.{both_ways}
use Rattle.log_laws.proofs.Placing.{other_apart}
use Rattle.log_laws.proofs.States.{whole_front, own_entries}
use Rattle.log_laws.proofs.Texts.{text_there, text_other, at_text, text_within, copy_at, whole_at}

-- each unit has some entry, with one more too
pub some_more : (us : List LogUnit) (number : ℕ) (unit : List Entry)
    → ((u : LogUnit) → IsAmong u us → u.entries ≡ [] → ⊥) → (u : LogUnit) → IsAmong u (with_unit us number unit)
    → u.entries ≡ [] → ⊥
some_more us number [] some u m none = some u m none
some_more us number (e ∷ es) some u m none =
    elim (among_push u us (record { number = number; entries = e ∷ es }) m) as (λ _. ⊥) [
      | inl old ↦ some u old none
      | inr same ↦ (let never : e ∷ es ≡ [] = ap (λ (x : LogUnit). x.entries) same ∙ none in cc)
    ]

-- ---- something is appended

module _ (d : FailData) (texts : Texts) (p : Shown) (history : List Record) (unit : List Entry) (log : IsLogged d texts)
    (mir : IsMirrored d texts p) (may : MayAppend d unit) where
  abbrev id : ℕ
  id = d.head.start.id

  abbrev us : List LogUnit
  us = d.head.units

  abbrev number : ℕ
  number = length d.history

  abbrev more : List LogUnit
  more = with_unit us number unit

  abbrev e : FailData
  e = with_appended d history unit

  abbrev whole : Text
  whole = front e.head (length more)

  abbrev now : Texts
  now = texts_appended d texts unit

  whole_entries : whole.entries ≡ (d.head.loaded ++ entries_of us) ++ unit
  whole_entries =
      whole_front e.head ∙ ap (λ (l : List Entry). d.head.loaded ++ l) (unit_entries us number unit)
      ∙ sym (append_assoc d.head.loaded (entries_of us) unit)

  -- with nothing appended the text is as it was
  same_text : unit ≡ [] → whole ≡ texts.text id
  same_text none =
      let all = d.head.loaded ++ entries_of us in
      let list : whole.entries ≡ front_entries d.head (length us) =
      whole_entries ∙ ap (λ (l : List Entry). all ++ l) none ∙ append-nil all ∙ sym (whole_front d.head) in
      (λ i. record { opening = whole.opening; entries = list i }) ∙ sym log.text

  -- if a head is new nothing is appended
  pub quiet : (n : Start) → IsNew d n → unit ≡ []
  quiet n is_new = elim may.calm as (λ _. unit ≡ []) [
    | inl none ↦ none
    | inr calm ↦ elim is_new as (λ _. unit ≡ []) [
      | inl is ↦ (let never : None ≡ Some n = sym (ap new_of calm) ∙ is in absurd (cc))
      | inr among ↦ absurd (subst (IsAmong n) (log.settled (ap is_settled calm)) among)
    ]
  ]

  -- if a failover is open nothing is appended
  pub still : is_failing d.mode ≡ true → unit ≡ []
  still fails = elim may.calm as (λ _. unit ≡ []) [
    | inl none ↦ none
    | inr calm ↦ absurd (both_ways (is_failing d.mode) fails (ap is_failing calm))
  ]

  same_units : unit ≡ [] → length more ≡ length us
  same_units none = ap (λ (u : List Entry). length (with_unit us number u)) none

  -- what the head's text is at another id, or if nothing is appended
  text_at : (s : ℕ) → (s ≡ id → unit ≡ []) → now.text s ≡ texts.text s
  text_at s when = elim (cases_eq s id) as (λ _. now.text s ≡ texts.text s) [
    | inl same ↦ ap now.text same ∙ text_there texts id whole ∙ same_text (when same) ∙ sym (ap texts.text same)
    | inr other ↦ text_other texts id whole s other
  ]

  pub listed_at : (n : Start) → (id ≡ n.id) ⊎ IsNew d n → IsStart d.config d.next texts n → (s : ℕ)
      → IsAmong s n.others → now.text s ≡ texts.text s
  listed_at n which start s among = text_at s (λ same. elim which as (λ _. unit ≡ []) [
    | inl own ↦ (let below = below_at n.id n.others s start.below among in absurd (omega arith))
    | inr is_new ↦ quiet n is_new
  ])

  start_then : (n : Start) → (id ≡ n.id) ⊎ IsNew d n → IsStart d.config d.next texts n → IsStart d.config d.next now n
  start_then n which start = record {
    below = start.below;
    lens = lens_each d.config texts now n (listed_at n which start) start.lens;
    next = start.next;
  }

  appended_keys : (s : ℕ) (es : List Entry) → IsVariant now s es → AreOfTablets d.config es
  appended_keys s es (inr image) = log.keys s es (inr image)
  appended_keys s es (inl is) = elim (cases_eq s id) as (λ _. AreOfTablets d.config es) [
    | inl same ↦ (
        let all : es ≡ (texts.text id).entries ++ unit =
        is ∙ ap (λ (t : ℕ). (now.text t).entries) same ∙ ap (λ (t : Text). t.entries) (text_there texts id whole)
        ∙ whole_entries ∙ ap (λ (l : List Entry). l ++ unit) (sym (own_entries d texts log)) in
        subst (AreOfTablets d.config) (sym all)
        (both_of_tablets d (texts.text id).entries unit (log.keys id (texts.text id).entries (inl refl)) may.keys))
    | inr other ↦ log.keys s es (inl (is ∙ ap (λ (t : Text). t.entries) (text_other texts id whole s other)))
  ]

  appended_logged : IsLogged e now
  appended_logged = record {
    head = start_then d.head.start (inl refl) log.head;
    text = text_there texts id whole;
    counted = λ b. let old = log.counted b in let longer = unit_longer us number unit in omega arith;
    one = log.one;
    some = some_more us number unit log.some;
    new = λ n is_new. start_then n (inr is_new) (log.new n is_new);
    newer = log.newer;
    new_text = λ n is_new. text_at n.id (λ same. quiet n is_new) ∙ log.new_text n is_new;
    new_one = log.new_one;
    keys = appended_keys;
    images = text_within texts id whole log.one log.images;
    above = log.above;
    settled = log.settled;
    repairs = λ is.
        let none = still (ap is_failing is) in
        let bare = log.repairs is in
        (bare.0, ap (λ (u : List Entry). with_unit us number u) none ∙ bare.1);
    two = log.two;
  }

  -- ---- replicas

  each_then : (b s : ℕ) (x : Replica) → IsReplica d texts p.least b s x → IsReplica e now p.least b s x
  each_then b s x (inl is) =
      let longer = unit_longer us number unit in
      let within = is.1.within in
      inl (
        is.0,
        record {
          k = is.1.k;
          within = omega arith;
          text = is.1.text ∙ ap (λ (vs : List LogUnit). record {
            opening = whole.opening;
            entries = d.head.loaded ++ entries_of vs;
          }) (sym (unit_front us number unit is.1.k is.1.within));
          reach = elim is.1.reach as (λ _. (HasTaken d id b × (d.counts b ≤ is.1.k))
              ⊎ ((is.1.k ≡ length more) × (is_failing d.mode ≡ true))) [
                | inl had ↦ inl had
                | inr all ↦ inr (all.0 ∙ sym (same_units (still all.1)), all.1)
              ];
          shut = λ closed.
              let all = is.1.shut closed in (
                all.0 ∙ sym (same_units (quiet all.1.n all.1.is_new)),
                record { n = all.1.n; is_new = all.1.is_new; opened = all.1.opened },
              );
        },
      )
  each_then b s x (inr (inl is)) = inr (inl is)
  each_then b s x (inr (inr is)) = elim (cases_eq s id) as (λ _. IsReplica e now p.least b s x) [
    | inl same ↦ (
        let some : IsSome (texts.text s).opening =
        subst IsSome (sym (ap (λ (t : Text). t.opening) (ap texts.text same ∙ log.text))) refl in
        let below = (is.bears some).0 in absurd (omega arith))
    | inr other ↦ (
        let text = text_other texts id whole s other in
        inr (inr (record {
          next = is.next;
          opening = is.opening ∙ sym (ap (λ (t : Text). t.opening) text);
          whole = whole_at d.config texts now s x (at_text texts id whole s other) is.whole;
          bears = λ some. is.bears (subst (λ (t : Text). IsSome t.opening) text some);
        })))
  ]

  appended_mirrored : IsMirrored e now p
  appended_mirrored = record {
    bounded = mir.bounded;
    each = λ b s x is. each_then b s x (mir.each b s x is);
    head = mir.head;
    opened = mir.opened;
    new = mir.new;
    others = λ s b other home.
        let there = mir.others s b other home in
        let at = at_text texts id whole s (other_apart d texts log s other) in
        (there.0, there.1, copy_at texts now s there.0 at there.2);
    whole = λ n b c is_new some home.
        mir.whole n b c is_new some home ∙ sym (same_units (quiet n is_new));
    least = mir.least;
    raised = mir.raised;
    shut = mir.shut;
    homes = mir.homes;
    new_homes = mir.new_homes;
  }

pub appended_is_held : AppendedIsHeld
appended_is_held d texts p history unit held may = record {
  some = held.some;
  logged = appended_logged d texts p history unit held.logged held.mirrored may;
  mirrored = appended_mirrored d texts p history unit held.logged held.mirrored may;
}
