-- Each held place is the place at which its key is found.
use Rattle.std.proofs.Common.{◌≡◌, Bool, true, false, List, [], ◌∷◌, refl, sym, ◌∙◌, ℕ}
use Rattle.std.specs.Prelude.{Option, Some}
use Rattle.std.specs.List.{AllByRecursion}
use Rattle.entry.specs.declared.key.Key.{Key}
use Rattle.places.specs.declared.place.Held.{Held}
use Rattle.places.specs.declared.place.Place.{Place}
use Rattle.places.proofs.Finding.{tells_is, tells_from}
use Rattle.places.specs.Lists.{tells, found_in, IsTold, AreApart, AreKeptIn}
use Rattle.places.proofs.Listed.{AllHeld}

-- each place is where its key is found
pub each_found : (keys : Place → Option Key) (hs : List Held) → AreApart keys hs
    → AllByRecursion (λ (h : Held). (k : Key) → keys h.place ≡ Some k → found_in keys k hs ≡ Some h.place) hs
each_found keys [] apart = tt
each_found keys (h ∷ hs) apart = (λ k is. first k is, later hs (each_found keys hs apart.1)) where
  first : (k : Key) → keys h.place ≡ Some k → found_in keys k (h ∷ hs) ≡ Some h.place
  first k is = let here = tells_from keys k h.place is in rw here refl

  later : (rest : List Held) → AllByRecursion (λ (x : Held). (k : Key) → keys x.place ≡ Some k
      → found_in keys k hs ≡ Some x.place) rest
      → AllByRecursion (λ (x : Held). (k : Key) → keys x.place ≡ Some k → found_in keys k (h ∷ hs) ≡ Some x.place) rest
  later [] all = tt
  later (x ∷ rest) all = (λ k is. step k is (all.0 k is), later rest all.1) where
    step : (k : Key) → keys x.place ≡ Some k → found_in keys k hs ≡ Some x.place
        → found_in keys k (h ∷ hs) ≡ Some x.place
    step k is there = go (tells keys k h.place) refl where
      go : (t : Bool) → tells keys k h.place ≡ t → found_in keys k (h ∷ hs) ≡ Some x.place
      go true here = (let never = sym (apart.0 k (tells_is keys k h.place here)) ∙ there in absurd (cc))
      go false other = rw other there

-- a key stands at the place, and is found there
abbrev pub HasKeyIn : (Place → Option Key) → List Held → Place → Type 0
HasKeyIn keys ps p = (k : Key) × (keys p ≡ Some k) × (found_in keys k ps ≡ Some p)

module _ {hash_of : Key → ℕ} where
  -- each place is where its key is found, and a key stands there
  pub each_told : (keys : Place → Option Key) (ps : List Held) → AreKeptIn hash_of keys ps
      → AllHeld (HasKeyIn keys ps) ps
  each_told keys ps all = go ps all.told (each_found keys ps all.apart) where
    go : (rest : List Held) → AllByRecursion (IsTold hash_of keys) rest
        → AllHeld (λ (p : Place). (k : Key) → keys p ≡ Some k → found_in keys k ps ≡ Some p) rest
        → AllHeld (HasKeyIn keys ps) rest
    go [] told at = tt
    go (h ∷ rest) told at = ((told.0.0, told.0.1, at.0 told.0.0 told.0.1), go rest told.1 at.1)
