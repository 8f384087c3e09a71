-- Places of which one moves, or of which all move.
use Rattle.std.proofs.Common.{◌≡◌, Bool, true, false, ◌||◌, List, [], ◌∷◌, refl, sym, ap, ◌∙◌, inl, inr, ℕ}
use Rattle.std.proofs.Common.{if◌then◌else◌}
use Rattle.std.specs.Prelude.{Option, Some, None}
use Rattle.std.specs.List.{AllByRecursion}
use Rattle.std.proofs.lemmas.Bool.{false_from_ne_true, or_cases, or_left, or_right}
use Rattle.std.proofs.lemmas.Bool.Decides.{same_from_decides}
use Rattle.std.proofs.lemmas.Option.{same_Some}
use Rattle.entry.specs.declared.key.Key.{Key}
use Rattle.places.specs.declared.place.Place.{Place}
use Rattle.places.specs.declared.place.Held.{Held}
use Rattle.places.proofs.Finding.{tells_from, found_here, found_later}
use Rattle.places.proofs.FoundPlaces.{same_true, same_from, relocated_set}
use Rattle.places.specs.Lists.{tells, found_in, IsTold, AreApart, AreKeptIn, IsSetIn, is_same, holds_in, relocated_in}
use Rattle.places.proofs.Listed.{names_in, moved_in, goes_all_in, AllHeld}

-- ---- all of them

pub all_of : (P : Place → Type 0) (hs : List Held) → ((p : Place) → P p) → AllHeld P hs
all_of P [] each = tt
all_of P (h ∷ hs) each = (each h.place, all_of P hs each)

-- where two ways lead each place to the same one, they lead all to the same ones
pub goes_alike : (f g : Place → Place) (hs : List Held) → AllHeld (λ (p : Place). f p ≡ g p) hs
    → goes_all_in f hs ≡ goes_all_in g hs
goes_alike f g [] same = refl
goes_alike f g (h ∷ hs) same = λ i. record h { place = same.0 i } ∷ goes_alike f g hs same.1 i

-- where each place stays, all stay
pub goes_nowhere : (f : Place → Place) (hs : List Held) → AllHeld (λ (p : Place). f p ≡ p) hs → goes_all_in f hs ≡ hs
goes_nowhere f [] same = refl
goes_nowhere f (h ∷ hs) same = λ i. record h { place = same.0 i } ∷ goes_nowhere f hs same.1 i

-- what is named once all have gone was named, if no other place has gone there
module _ (hash_of : Key → ℕ) (goes : Place → Place) (k : Key) (p : Place)
    (stayed : (q : Place) → goes q ≡ p → q ≡ p) where
  abbrev sought : Held
  sought = record { hash = hash_of k; place = p }

  pub named_gone : (hs : List Held) → names_in hash_of (goes_all_in goes hs) k p ≡ true → names_in hash_of hs k p ≡ true
  named_gone [] is = is
  named_gone (g ∷ gs) is = go (is_same sought (record g { place = goes g.place })) refl is (named_gone gs)
    where
      go : (b : Bool) → is_same sought (record g { place = goes g.place }) ≡ b
          → (b || names_in hash_of (goes_all_in goes gs) k p) ≡ true
          → (names_in hash_of (goes_all_in goes gs) k p ≡ true → names_in hash_of gs k p ≡ true)
          → names_in hash_of (g ∷ gs) k p ≡ true
      go true same is rest =
          let one = same_true sought (record g { place = goes g.place }) same in
          let place : g.place ≡ p = stayed g.place (ap (λ (x : Held). x.place) one) in
          let hash : g.hash ≡ hash_of k = ap (λ (x : Held). x.hash) one in
          or_left (is_same sought g) (names_in hash_of gs k p) (same_from sought g hash place)
      go false other is rest = or_right (is_same sought g) (names_in hash_of gs k p) (rest is)

-- ---- one of them

-- where a key is found, its place moves
pub moved_set : (hash_of : Key → ℕ) (keys : Place → Option Key) (ps : List Held) (k : Key) (p to : Place)
    → AreKeptIn hash_of keys ps → found_in keys k ps ≡ Some p → keys to ≡ Some k
    → IsSetIn hash_of keys ps k (Some to) (moved_in hash_of ps k p to)
moved_set hash_of keys ps k p to all is there =
    relocated_set keys k ps (record { hash = hash_of k; place = p }) to all is refl there

-- another place under the same hash is another one
other_place : (h g : Held) → (g.place ≡ h.place → ⊥) → is_same h g ≡ false
other_place h g other =
    false_from_ne_true (is_same h g) (λ same. other (ap (λ (x : Held). x.place) (same_true h g same)))

module _ (hash_of : Key → ℕ) (k q : Key) (p to r : Place) where
  abbrev moving : Held
  moving = record { hash = hash_of k; place = p }

  abbrev wanted : Held
  wanted = record { hash = hash_of q; place = r }

  -- a place that doesn't move is named as long as it was
  pub names_still : (r ≡ p → ⊥) → (hs : List Held) → names_in hash_of hs q r ≡ true
      → names_in hash_of (moved_in hash_of hs k p to) q r ≡ true
  names_still old [] is = is
  names_still old (g ∷ gs) is = go (is_same moving g) refl is (names_still old gs)
    where
      go : (b : Bool) → is_same moving g ≡ b → (is_same wanted g || holds_in gs wanted) ≡ true
          → (holds_in gs wanted ≡ true → holds_in (relocated_in moving to gs) wanted ≡ true)
          → holds_in (if b then record g { place = to } ∷ gs else g ∷ relocated_in moving to gs) wanted ≡ true
      go true same is rest =
          let here : g.place ≡ p = ap (λ (x : Held). x.place) (same_true moving g same) in
          let not_it : is_same wanted g ≡ false = other_place wanted g (λ at. old (sym at ∙ here)) in
          or_right (is_same wanted (record g { place = to })) (holds_in gs wanted)
          (sym (ap (λ (b : Bool). b || holds_in gs wanted) not_it) ∙ is)
      go false other is rest =
          elim (or_cases (is_same wanted g) (holds_in gs wanted) is) as (λ _.
          (is_same wanted g || holds_in (relocated_in moving to gs) wanted) ≡ true) [
            | inl here ↦ or_left (is_same wanted g) (holds_in (relocated_in moving to gs) wanted) here
            | inr later ↦ or_right (is_same wanted g) (holds_in (relocated_in moving to gs) wanted) (rest later)
          ]

  -- a place that isn't moved to is named afterwards only if it was before
  pub named_before : (r ≡ to → ⊥) → (hs : List Held) → names_in hash_of (moved_in hash_of hs k p to) q r ≡ true
      → names_in hash_of hs q r ≡ true
  named_before new [] is = is
  named_before new (g ∷ gs) is = go (is_same moving g) (named_before new gs) is
    where
      go : (b : Bool) → (holds_in (relocated_in moving to gs) wanted ≡ true → holds_in gs wanted ≡ true)
          → holds_in (if b then record g { place = to } ∷ gs else g ∷ relocated_in moving to gs) wanted ≡ true
          → (is_same wanted g || holds_in gs wanted) ≡ true
      go true rest found =
          let not_it : is_same wanted (record g { place = to }) ≡ false =
          other_place wanted (record g { place = to }) (λ is. new (sym is)) in
          or_right (is_same wanted g) (holds_in gs wanted)
          (sym (ap (λ (b : Bool). b || holds_in gs wanted) not_it) ∙ found)
      go false rest found =
          elim (or_cases (is_same wanted g) (holds_in (relocated_in moving to gs) wanted) found) as (λ _.
          (is_same wanted g || holds_in gs wanted) ≡ true) [
            | inl here ↦ or_left (is_same wanted g) (holds_in gs wanted) here
            | inr later ↦ or_right (is_same wanted g) (holds_in gs wanted) (rest later)
          ]

  -- a place that neither moves nor is moved to is named as before
  pub names_other : (r ≡ p → ⊥) → (r ≡ to → ⊥) → (hs : List Held)
      → names_in hash_of (moved_in hash_of hs k p to) q r ≡ names_in hash_of hs q r
  names_other old new hs =
      same_from_decides (names_in hash_of (moved_in hash_of hs k p to) q r) (names_in hash_of hs q r)
      (named_before new hs, names_still old hs) (λ is. is, λ is. is)

-- a place that moves is named where it went
module _ (hash_of : Key → ℕ) (k : Key) (p to : Place) where
  abbrev leaving : Held
  leaving = record { hash = hash_of k; place = p }

  abbrev arriving : Held
  arriving = record { hash = hash_of k; place = to }

  pub names_moved : (hs : List Held) → names_in hash_of hs k p ≡ true
      → names_in hash_of (moved_in hash_of hs k p to) k to ≡ true
  names_moved [] is = absurd (cc)
  names_moved (g ∷ gs) is = go (is_same leaving g) refl is (names_moved gs)
    where
      go : (b : Bool) → is_same leaving g ≡ b → (b || holds_in gs leaving) ≡ true
          → (holds_in gs leaving ≡ true → holds_in (relocated_in leaving to gs) arriving ≡ true)
          → holds_in (if b then record g { place = to } ∷ gs else g ∷ relocated_in leaving to gs) arriving ≡ true
      go true same is rest =
          let hash : g.hash ≡ hash_of k = ap (λ (x : Held). x.hash) (same_true leaving g same) in
          or_left (is_same arriving (record g { place = to })) (holds_in gs arriving)
          (same_from arriving (record g { place = to }) hash refl)
      go false other is rest = or_right (is_same arriving g) (holds_in (relocated_in leaving to gs) arriving) (rest is)

-- Two ways lead each place but one to the same place, which isn't that one. If the first way leaves it, and the second
-- leads it to where it moves, then to go the first way and to move it is to go the second way.
module _ (hash_of : Key → ℕ) (keys : Place → Option Key) (f g : Place → Place) (k : Key) (p to : Place)
    (stands : keys p ≡ Some k) (stays : f p ≡ p) (goes : g p ≡ to) where
  abbrev h : Held
  h = record { hash = hash_of k; place = p }

  abbrev IsAlike : Place → Type 0
  IsAlike q = (q ≡ p → ⊥) → (f q ≡ g q) × (f q ≡ p → ⊥)

  abbrev led : Held → Held
  led x = record x { place = f x.place }

  -- no other place is that one
  rest_alike : (hs : List Held) → AllHeld IsAlike hs → found_in keys k hs ≡ None → goes_all_in f hs ≡ goes_all_in g hs
  rest_alike [] alike none = refl
  rest_alike (x ∷ xs) alike none = go (tells keys k x.place) refl (rest_alike xs alike.1)
    where
      go : (b : Bool) → tells keys k x.place ≡ b → (found_in keys k xs ≡ None → goes_all_in f xs ≡ goes_all_in g xs)
          → goes_all_in f (x ∷ xs) ≡ goes_all_in g (x ∷ xs)
      go true so rest = let some = found_here keys k x xs so in absurd (cc)
      go false isnt rest =
          let other : x.place ≡ p → ⊥ = λ same.
          let so : tells keys k x.place ≡ true = tells_from keys k x.place (ap keys same ∙ stands) in cc in
          let later = rest (sym (found_later keys k x xs isnt) ∙ none) in
          let here = (alike.0 other).0 in λ i. record x { place = here i } ∷ later i

  pub moves_alike : (hs : List Held) → AllByRecursion (IsTold hash_of keys) hs → AreApart keys hs → AllHeld IsAlike hs
      → moved_in hash_of (goes_all_in f hs) k p to ≡ goes_all_in g hs
  moves_alike [] told apart alike = refl
  moves_alike (x ∷ xs) told apart alike =
      go (is_same h x) refl (moves_alike xs told.1 apart.1 alike.1)
    where
      go : (b : Bool) → is_same h x ≡ b → relocated_in h to (goes_all_in f xs) ≡ goes_all_in g xs
          → relocated_in h to (goes_all_in f (x ∷ xs)) ≡ goes_all_in g (x ∷ xs)
      go true same rest =
          let here : x.place ≡ p = ap (λ (y : Held). y.place) (same_true h x same) in
          let hash : x.hash ≡ hash_of k = ap (λ (y : Held). y.hash) (same_true h x same) in
          let place : f x.place ≡ p = ap f here ∙ stays in
          let there : to ≡ g x.place = sym (ap g here ∙ goes) in
          let alone = rest_alike xs alike.1 (apart.0 k (ap keys here ∙ stands)) in
          ap (λ (b : Bool). if b then record (led x) { place = to } ∷ goes_all_in f xs
          else led x ∷ relocated_in h to (goes_all_in f xs)) (same_from h (led x) hash place)
          ∙ (λ i. record x { place = there i } ∷ alone i)
      go false isnt rest =
          let other : x.place ≡ p → ⊥ = λ place.
          let key : told.0.0 ≡ k = same_Some told.0.0 k (sym told.0.1 ∙ ap keys place ∙ stands) in
          let same = same_from h x (told.0.2 ∙ ap hash_of key) place in cc in
          let way = alike.0 other in
          ap (λ (b : Bool). if b then record (led x) { place = to } ∷ goes_all_in f xs
          else led x ∷ relocated_in h to (goes_all_in f xs)) (other_place h (led x) way.1)
          ∙ (λ i. record x { place = way.0 i } ∷ rest i)
