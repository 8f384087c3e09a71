-- The places that an index holds, as a list with the hashes of their keys: where keys are found, and how it changes.
use Rattle.std.specs.Prelude.{◌≡◌, ℕ, List, [], ◌∷◌, Bool, false, ◌==◌, ◌&&◌, Option, Some, None, if◌then◌else◌}
use Rattle.std.specs.List.{list_any, AllByRecursion}
use Rattle.std.specs.Option.{option_map_or}
use Rattle.entry.specs.declared.key.Key.{Key}
use Rattle.entry.specs.Order.{key_eq}
use Rattle.places.specs.declared.place.Place.{Place}
use Rattle.places.specs.declared.place.Held.{Held}

-- the key stands at the place
abbrev pub tells : (Place → Option Key) → Key → Place → Bool
tells keys k p = option_map_or (key_eq k) (keys p) false

-- the place is held under this hash
abbrev pub has_hash : ℕ → Held → Bool
has_hash hash h = h.hash == hash

-- the place is held under this hash, and the key stands there
abbrev pub is_of : (Place → Option Key) → Key → ℕ → Held → Bool
is_of keys k hash h = (h.hash == hash) && tells keys k h.place

-- the place where the key is found: the first of the places at which it stands; None if it stands at none of them
abbrev pub found_in : (Place → Option Key) → Key → List Held → Option Place
found_in keys k [] = None
found_in keys k (h ∷ hs) = if tells keys k h.place then Some h.place else found_in keys k hs

-- A candidate for a key: if the key stands at the candidate, it is found there. If there is no candidate, the key
-- isn't found.
abbrev pub IsCandidateIn : (Place → Option Key) → Key → List Held → Option Place → Type 0
IsCandidateIn keys k hs None = found_in keys k hs ≡ None
IsCandidateIn keys k hs (Some p) = keys p ≡ Some k → found_in keys k hs ≡ Some p

-- a key stands at the place, and the place is held under the hash of this key
abbrev pub IsTold : (Key → ℕ) → (Place → Option Key) → Held → Type 0
IsTold hash_of keys h = (k : Key) × (keys h.place ≡ Some k) × (h.hash ≡ hash_of k)

-- no key stands at two of the places
abbrev pub AreApart : (Place → Option Key) → List Held → Type 0
AreApart keys [] = Unit {0}
AreApart keys (h ∷ hs) = ((k : Key) → keys h.place ≡ Some k → found_in keys k hs ≡ None) × AreApart keys hs

-- The places are a map from keys: a key stands at each of them, under its own hash, and no key stands at two of them.
pub record AreKeptIn (hash_of : Key → ℕ) (keys : Place → Option Key) (hs : List Held) : Type 0 where
  pub told : AllByRecursion (IsTold hash_of keys) hs
  pub apart : AreApart keys hs

-- The second map is the first one, but for one key: there it has the given place, or none.
pub record IsSetIn (hash_of : Key → ℕ) (keys : Place → Option Key) (old : List Held) (k : Key) (x : Option Place)
    (new : List Held) : Type 0 where
  pub kept : AreKeptIn hash_of keys new
  pub finds : (q : Key) → found_in keys q new ≡ (if key_eq q k then x else found_in keys q old)

-- Each key is found at the same place in both; the places may be in another order.
pub record IsSameMapIn (hash_of : Key → ℕ) (keys : Place → Option Key) (old new : List Held) : Type 0 where
  pub kept : AreKeptIn hash_of keys new
  pub finds : (q : Key) → found_in keys q new ≡ found_in keys q old

-- the two places are the same
abbrev pub is_same_place : Place → Place → Bool
is_same_place p q = (q.segment == p.segment) && (q.at == p.at)

-- the same place under the same hash
abbrev pub is_same : Held → Held → Bool
is_same h g = (g.hash == h.hash) && is_same_place h.place g.place

-- the list has this place under this hash
abbrev pub holds_in : List Held → Held → Bool
holds_in hs h = list_any (is_same h) hs

-- the list after the first occurrence of this place under this hash became another place
abbrev pub relocated_in : Held → Place → List Held → List Held
relocated_in h to [] = []
relocated_in h to (g ∷ gs) = if is_same h g then record g { place = to } ∷ gs else g ∷ relocated_in h to gs

-- the list without the first occurrence of this place under this hash
abbrev pub without : Held → List Held → List Held
without h [] = []
without h (g ∷ gs) = if is_same h g then gs else g ∷ without h gs
