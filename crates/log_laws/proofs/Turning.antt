-- An ordinary roll: its digest has all that the log holds.
use Rattle.std.proofs.Common.{◌≡◌, ℕ, ◌<◌, ◌⊎◌, inl, inr, true, false, List, [], ◌∷◌, ◌++◌, length, refl, sym, ap}
use Rattle.std.proofs.Common.{subst, ◌∙◌, arith, append_assoc}
use Rattle.std.specs.Prelude.{◌==◌}
use Rattle.std.proofs.lemmas.Bool.{cases_eq}
use Rattle.std.proofs.lemmas.Bool.Decides.{nat_tests}
use Rattle.std.proofs.lemmas.List.{append-nil}
use Rattle.entry.specs.declared.entry.Entry.{Entry}
use Rattle.entry.specs.Bag.{IsAmong}
use Rattle.entry.proofs.BagLemmas.{among_push}
use Rattle.versioned_map.specs.Represents.{Represents}
use Rattle.log_laws.specs.Heads.{Start, entries_of, ids_of}
use Rattle.log_laws.proofs.IdLists.{all_below, below_at}
use Rattle.log_laws.proofs.RecordedAnew.{recorded_anew}
use Rattle.log_laws.specs.Text.{length_of}
use Rattle.log_laws.specs.Shown.{Shown}
use Rattle.log_laws.specs.Data.{front, Mode, FailData, IsHome, state_of}
use Rattle.log_laws.specs.Log.{Texts, IsVariant, IsBase, IsLogged, HoldsCopy, IsMirrored, BasesStand, IsStanding}
use Rattle.log_laws.specs.Steps.{len_now, next_start, MayTurn, IsRoll}
use Rattle.log_laws.specs.Laws.{OrdinaryIsRoll, OrdinaryStands}
use Rattle.log_laws.proofs.Lengths.{lens_known, len_known}
use Rattle.log_laws.proofs.States.{whole_front, own_entries, present_stands}

-- a base with one more segment
pub base_push : (texts : Texts) (ids : List ℕ) (s : ℕ) (base : List Entry) → IsBase texts (ids ++ s ∷ []) base
    → (es : List Entry) × (rest : List Entry) × IsVariant texts s es × IsBase texts ids rest × (base ≡ rest ++ es)
base_push texts [] s base (es, rest, here, none, is) =
    (es, [], here, refl, is ∙ ap (λ (l : List Entry). es ++ l) none ∙ append-nil es)
base_push texts (t ∷ ids) s base (xs, rest, here, more, is) =
    let later = base_push texts ids s rest more in (
      later.0,
      xs ++ later.1,
      later.2,
      (xs, later.1, here, later.3, refl),
      is ∙ ap (λ (l : List Entry). xs ++ l) later.4 ∙ sym (append_assoc xs later.1 later.0),
    )

module _ (d : FailData) (texts : Texts) (p : Shown) (mode : Mode) (log : IsLogged d texts) (mir : IsMirrored d texts p)
    (may : MayTurn d mode) where
  abbrev n : Start
  n = next_start d

  abbrev id : ℕ
  id = d.head.start.id

  -- none, or all
  which : ((id ≡ 0) × (n.others ≡ [])) ⊎ (n.others ≡ ids_of d.head.start)
  which = elim (cases_eq id 0) as (λ _. ((id ≡ 0) × (n.others ≡ [])) ⊎ (n.others ≡ ids_of d.head.start)) [
    | inl none ↦ (let is : (id == 0) ≡ true = grind (arith, nat_tests) in inl (none, rw is refl))
    | inr some ↦ (let is : (id == 0) ≡ false = grind (arith, nat_tests) in inr (rw is refl))
  ]

  listed_is : (s : ℕ) → IsAmong s n.others → IsAmong s (ids_of d.head.start)
  listed_is s among = elim which as (λ _. IsAmong s (ids_of d.head.start)) [
    | inl none ↦ absurd (subst (IsAmong s) none.1 among)
    | inr all ↦ subst (IsAmong s) all among
  ]

  -- another id of the digest in force, or the old head's
  listed_either : (s : ℕ) → IsAmong s n.others → IsAmong s d.head.start.others ⊎ (id ≡ s)
  listed_either s among = among_push s d.head.start.others id (listed_is s among)

  turn_stands : IsStanding d texts → BasesStand texts n (state_of d)
  turn_stands standing base is = elim which as (λ _. Represents n.safe base (state_of d)) [
    | inl none ↦ (
        let bare = may.some none.0 in
        let empty : base ≡ [] = subst (λ (l : List ℕ). IsBase texts l base) none.1 is in
        let old : IsBase texts d.head.start.others [] = subst (λ (l : List ℕ). IsBase texts l []) (sym bare.0) refl in
        subst (λ (l : List Entry). Represents n.safe l (state_of d))
        (sym (whole_front d.head) ∙ bare.1 ∙ sym empty)
        (recorded_anew d.head.start.safe (d.head.loaded ++ entries_of d.head.units) (state_of d)
        (present_stands d texts standing [] old)))
    | inr all ↦ (
        let parts = base_push texts d.head.start.others id base (subst (λ (l : List ℕ). IsBase texts l base) all is) in
        let whole = d.head.loaded ++ entries_of d.head.units in
        let own : parts.0 ≡ whole = elim parts.2 as (λ _. parts.0 ≡ whole) [
          | inl text ↦ text ∙ own_entries d texts log
          | inr image ↦ absurd (subst (λ (l : List (List Entry)). IsAmong parts.0 l) log.one image)
        ] in
        subst (λ (l : List Entry). Represents n.safe l (state_of d))
        (ap (λ (l : List Entry). parts.1 ++ l) (sym own) ∙ sym parts.4)
        (recorded_anew d.head.start.safe (parts.1 ++ whole) (state_of d)
        (present_stands d texts standing parts.1 parts.3)))
  ]

  turn_held : (s b : ℕ) → IsAmong s n.others → (s ≡ id → ⊥) → IsHome d s b → HoldsCopy texts p b s
  turn_held s b m other home = elim (listed_either s m) as (λ _. HoldsCopy texts p b s) [
    | inl old ↦ mir.others s b (inl old) home
    | inr own ↦ absurd (other (sym own))
  ]

  turn_roll : IsRoll d texts p n mode
  turn_roll = record {
    may = may.may;
    next = refl;
    below = all_below d.next n.others (λ s among.
        let next = log.head.next in
        elim (listed_either s among) as (λ _. s < d.next) [
          | inl old ↦ (let lt = below_at id d.head.start.others s log.head.below old in omega arith)
          | inr own ↦ omega arith
        ]);
    lens = lens_known d.config texts d.head.start log.head.lens (len_now d) n.others (λ two s among.
        len_known d.config texts d.head.start log.head.lens two (length_of (front d.head (length d.head.units)))
        (ap length_of log.text) s (listed_is s among));
    held = turn_held;
  }

pub ordinary_is_roll : OrdinaryIsRoll
ordinary_is_roll d texts p mode held may = turn_roll d texts p mode held.logged held.mirrored may

pub ordinary_stands : OrdinaryStands
ordinary_stands d p mode kept may =
    turn_stands d kept.texts p mode kept.held.logged kept.held.mirrored may kept.standing
