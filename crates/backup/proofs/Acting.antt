-- What an act does to the replica at its place, by what was found there.
use Rattle.std.proofs.Common.{◌≡◌, ℕ, ◌==◌, ◌&&◌, List, Bool, true, false, Option, Some, None, refl, sym, ap, subst}
use Rattle.std.proofs.Common.{subst₂, ◌∙◌}
use Rattle.std.specs.List.{HoldsAt, insert, remove}
use Rattle.std.specs.Prelude.{Result, IsSome}
use Rattle.replica.specs.declared.op.TakeFault.{TakeFault}
use Rattle.replica.specs.Op.{ActValue, Free}
use Rattle.replica.specs.Picture.{Replica}
use Rattle.replica.specs.Take.{effect}
use Rattle.backup.specs.Acts.{Acts, adding}
use Rattle.backup.specs.Slots.{Place, Slots, AreOrdered, found_in, with_stored, IsAt, IsGapFor}
use Rattle.backup.proofs.Shelves.{stored_at, there, none_at, IsOnlyAt, written, removed, inserted}

-- ---- on a replica that is there

-- it is changed
module _ (old : Slots) (ordered : AreOrdered old) (place : Place) (i : ℕ) (at : IsAt old place i) (mid : Slots)
    (same : mid ≡ old) (b : Replica) where
  only : IsOnlyAt old (with_stored mid i b) place (Some b)
  only = subst (λ (slots : Slots). IsOnlyAt old (with_stored slots i b) place (Some b)) (sym same)
      (written old ordered place i at b)

  pub change_acts : (act : ActValue) (result : Result Unit TakeFault) (a : Replica)
      → HoldsAt (λ slot. slot.1 ≡ a) mid i
      → Acts act (Some a) result (Some b)
      → Acts act (found_in old place) result (found_in (with_stored mid i b) place)
  change_acts act result a is acts =
      let was : HoldsAt (λ slot. slot.1 ≡ a) old i =
      subst (λ (slots : Slots). HoldsAt (λ slot. slot.1 ≡ a) slots i) same is in
      subst₂ (λ (x y : Option Replica). Acts act x result y) (sym (stored_at old ordered place i at a was))
      (sym only.here) acts

  pub change_keeps : (m s : ℕ) → ((place.0 == m) && (place.1 == s)) ≡ false
      → found_in (with_stored mid i b) (m, s) ≡ found_in old (m, s)
  change_keeps = only.others

-- it is taken out
module _ (old : Slots) (ordered : AreOrdered old) (place : Place) (i : ℕ) (at : IsAt old place i) (new : Slots)
    (is : new ≡ remove old i) where
  pub free_acts : effect Free (found_in old place) ≡ Some (found_in new place)
  free_acts =
      let was = there old ordered place i at in
      let gone : found_in new place ≡ None =
      ap (λ (slots : Slots). found_in slots place) is ∙ (removed old ordered place i at).here in
      ap (effect Free) was.1 ∙ ap Some (sym gone)

  pub free_keeps : (m s : ℕ) → ((place.0 == m) && (place.1 == s)) ≡ false
      → found_in new (m, s) ≡ found_in old (m, s)
  free_keeps m s other =
      ap (λ (slots : Slots). found_in slots (m, s)) is ∙ (removed old ordered place i at).others m s other

-- ---- where none is there

-- an act on a replica is refused
pub refused : (act : ActValue) → effect act None ≡ None → (old : Slots) → AreOrdered old → (place : Place) (i : ℕ)
    → IsGapFor old place i
    → effect act (found_in old place) ≡ None
refused act none old ordered place i gap = ap (effect act) (none_at old ordered place i gap) ∙ none

-- one is made
adds : (bytes : List ℕ) (is_open : Bool)
    → effect (adding bytes is_open) None ≡ Some (Some (record { bytes = bytes; is_open = is_open }))
adds bytes true = refl
adds bytes false = refl

adds_none : (bytes : List ℕ) (is_open : Bool) (r : Replica) → effect (adding bytes is_open) (Some r) ≡ None
adds_none bytes true r = refl
adds_none bytes false r = refl

-- none is made where one is
pub add_refused : (bytes : List ℕ) (is_open : Bool) (old : Slots) → AreOrdered old → (place : Place) (i : ℕ)
    → IsAt old place i
    → effect (adding bytes is_open) (found_in old place) ≡ None
add_refused bytes is_open old ordered place i at =
    let was = there old ordered place i at in
    ap (effect (adding bytes is_open)) was.1 ∙ adds_none bytes is_open was.0

module _ (bytes : List ℕ) (is_open : Bool) (old : Slots) (ordered : AreOrdered old) (place : Place) (i : ℕ)
    (gap : IsGapFor old place i) where
  made : effect (adding bytes is_open) (found_in old place) ≡ Some (Some (record { bytes = bytes; is_open = is_open }))
  made = ap (effect (adding bytes is_open)) (none_at old ordered place i gap) ∙ adds bytes is_open

  pub add_fits : IsSome (effect (adding bytes is_open) (found_in old place))
  add_fits = subst (λ (e : Option (Option Replica)). IsSome e) (sym made) refl

  module _ (new : Slots) (r : Replica) (is : new ≡ insert old i (place, r)) where
    pub add_acts : r ≡ record { bytes = bytes; is_open = is_open }
        → effect (adding bytes is_open) (found_in old place) ≡ Some (found_in new place)
    add_acts same =
        let now : found_in new place ≡ Some r =
        ap (λ (slots : Slots). found_in slots place) is ∙ (inserted old ordered place i gap r).here in
        made ∙ sym (ap Some (now ∙ ap Some same))

    pub add_keeps : (m s : ℕ) → ((place.0 == m) && (place.1 == s)) ≡ false
        → found_in new (m, s) ≡ found_in old (m, s)
    add_keeps m s other =
        ap (λ (slots : Slots). found_in slots (m, s)) is ∙ (inserted old ordered place i gap r).others m s other
