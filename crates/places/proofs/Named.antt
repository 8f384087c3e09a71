-- A place that is named for a key is where the key is found.
use Rattle.std.proofs.Common.{◌≡◌, ℕ, Bool, true, false, ◌||◌, List, [], ◌∷◌, refl, sym, ap, ◌∙◌}
use Rattle.std.specs.Prelude.{Option, Some}
use Rattle.std.specs.List.{AllByRecursion}
use Rattle.entry.specs.declared.key.Key.{Key}
use Rattle.places.specs.declared.place.Place.{Place}
use Rattle.places.specs.declared.place.Held.{Held}
use Rattle.places.proofs.Finding.{tells_is, tells_from, found_here, found_later, kept_tail}
use Rattle.places.proofs.FoundPlaces.{same_true, same_from}
use Rattle.places.specs.Lists.{tells, found_in, IsTold, AreKeptIn, is_same, holds_in}
use Rattle.places.proofs.Listed.{names_in}

module _ (hash_of : Key → ℕ) (keys : Place → Option Key) (k : Key) (p : Place) where
  abbrev h : Held
  h = record { hash = hash_of k; place = p }

  pub named_found : keys p ≡ Some k → (ps : List Held) → AreKeptIn hash_of keys ps → names_in hash_of ps k p ≡ true
      → found_in keys k ps ≡ Some p
  named_found there [] all e = absurd (cc)
  named_found there (x ∷ xs) all e = go (is_same h x) refl (named_found there xs (kept_tail keys x xs all))
    where
      go : (b : Bool) → is_same h x ≡ b → (names_in hash_of xs k p ≡ true → found_in keys k xs ≡ Some p)
          → found_in keys k (x ∷ xs) ≡ Some p
      go true so rest =
          let place = ap (λ (y : Held). y.place) (same_true h x so) in
          let told = tells_from keys k x.place (ap keys place ∙ there) in
          found_here keys k x xs told ∙ ap (λ (q : Place). Some q) place
      go false isnt rest =
          let later : names_in hash_of xs k p ≡ true = sym (ap (λ (b : Bool). b || names_in hash_of xs k p) isnt) ∙ e in
          let found_it = rest later in
          found_later keys k x xs (not_here (tells keys k x.place) refl found_it) ∙ found_it
        where
          not_here : (t : Bool) → tells keys k x.place ≡ t → found_in keys k xs ≡ Some p → tells keys k x.place ≡ false
          not_here true so f = let none = all.apart.0 k (tells_is keys k x.place so) in absurd (cc)
          not_here false isnt f = isnt

  pub found_named : (ps : List Held) → AreKeptIn hash_of keys ps → found_in keys k ps ≡ Some p
      → names_in hash_of ps k p ≡ true
  found_named [] all e = absurd (cc)
  found_named (x ∷ xs) all e = go (tells keys k x.place) refl (found_named xs (kept_tail keys x xs all))
    where
      go : (t : Bool) → tells keys k x.place ≡ t → (found_in keys k xs ≡ Some p → names_in hash_of xs k p ≡ true)
          → names_in hash_of (x ∷ xs) k p ≡ true
      go true so rest =
          let both : Some x.place ≡ Some p = sym (found_here keys k x xs so) ∙ e in
          let place : x.place ≡ p = cc in
          let told = all.told.0 in
          let keys_too : Some told.0 ≡ Some k = sym told.1 ∙ tells_is keys k x.place so in
          let same : told.0 ≡ k = cc in
          let hash : x.hash ≡ hash_of k = told.2 ∙ ap (λ (q : Key). hash_of q) same in
          ap (λ (b : Bool). b || names_in hash_of xs k p) (same_from h x hash place)
      go false isnt rest =
          or_right (is_same h x) (names_in hash_of xs k p) (rest (sym (found_later keys k x xs isnt) ∙ e))
        where
          or_right : (a b : Bool) → b ≡ true → (a || b) ≡ true
          or_right true b so = refl
          or_right false b so = so

-- a key with the same hash stands where a key is named
pub named_told : (hash_of : Key → ℕ) (keys : Place → Option Key) (k : Key) (p : Place) (ps : List Held)
    → AllByRecursion (IsTold hash_of keys) ps
    → names_in hash_of ps k p ≡ true → (j : Key) × (keys p ≡ Some j) × (hash_of j ≡ hash_of k)
named_told hash_of keys k p [] told is = absurd (cc)
named_told hash_of keys k p (x ∷ xs) told is = go (is_same sought x) refl is (named_told hash_of keys k p xs told.1)
  where
    sought : Held
    sought = record { hash = hash_of k; place = p }

    go : (b : Bool) → is_same sought x ≡ b → (b || names_in hash_of xs k p) ≡ true
        → (names_in hash_of xs k p ≡ true → (j : Key) × (keys p ≡ Some j) × (hash_of j ≡ hash_of k))
        → (j : Key) × (keys p ≡ Some j) × (hash_of j ≡ hash_of k)
    go true so is rest =
        let one : x ≡ sought = same_true sought x so in
        let key : keys x.place ≡ keys p = ap (λ (y : Held). keys y.place) one in
        (told.0.0, sym key ∙ told.0.1, sym told.0.2 ∙ ap (λ (y : Held). y.hash) one)
    go false isnt is rest = rest is

-- two keys with one hash are named alike
pub named_alike : (hash_of : Key → ℕ) (j k : Key) (p : Place) (ps : List Held) → hash_of j ≡ hash_of k
    → names_in hash_of ps j p ≡ names_in hash_of ps k p
named_alike hash_of j k p ps same = ap (λ (n : ℕ). holds_in ps (record { hash = n; place = p })) same
