-- An index as a map from keys to places. A resolver gives the key at each place.
use Rattle.std.specs.Prelude.{◌≡◌, ℕ, List, Option, if◌then◌else◌}
use Rattle.entry.specs.declared.key.Key.{Key}
use Rattle.entry.specs.Order.{key_eq}
use Rattle.places.specs.declared.place.Place.{Place}
use Rattle.places.specs.declared.place.Held.{Held}
use Rattle.places.specs.Hashing.{hash_by, pieces}
use Rattle.places.specs.Lists.{found_in, AreKeptIn, IsCandidateIn}

-- The places that an index holds, each under the hash of its key, and the seed of the hashes. The definitions below
-- hide the order of the places and the hashes.
pub record Places : Type 0 where
  pub seed : List ℕ
  pub list : List Held

-- the places that an index holds, and for how many more keys it has room
pub record IndexValue : Type 0 where
  pub held : Places
  pub room : ℕ

-- the place at which the key is found; None if the key has no place
abbrev pub found : (Place → Option Key) → Key → Places → Option Place
found keys k ps = found_in keys k ps.list

-- A candidate for a key: if the key stands at the candidate, it is found there. If there is no candidate, the key
-- isn't found.
abbrev pub IsCandidate : (Place → Option Key) → Key → Places → Option Place → Type 0
IsCandidate keys k ps o = IsCandidateIn keys k ps.list o

-- ---- with any hasher

-- the places are a map from keys: a key stands at each of them, under its own hash, and no key stands at two of them
abbrev pub AreKeptBy : (List ℕ → Key → ℕ) → (Place → Option Key) → Places → Type 0
AreKeptBy hash keys ps = AreKeptIn (pieces hash ps.seed) keys ps.list

-- The second map is the first one, but for one key: there it has the given place, or none.
pub record IsSetBy (hash : List ℕ → Key → ℕ) (keys : Place → Option Key) (old : Places) (k : Key) (x : Option Place)
    (new : Places) : Type 0 where
  pub seed : new.seed ≡ old.seed
  pub kept : AreKeptBy hash keys new
  pub finds : (q : Key) → found keys q new ≡ (if key_eq q k then x else found keys q old)

-- Each key is found at the same place in both; the places may be in another order.
pub record IsSameMapBy (hash : List ℕ → Key → ℕ) (keys : Place → Option Key) (old new : Places) : Type 0 where
  pub seed : new.seed ≡ old.seed
  pub kept : AreKeptBy hash keys new
  pub finds : (q : Key) → found keys q new ≡ found keys q old

-- ---- with the default hasher

abbrev pub AreKept : (Place → Option Key) → Places → Type 0
AreKept = AreKeptBy hash_by

abbrev pub IsSet : (Place → Option Key) → Places → Key → Option Place → Places → Type 0
IsSet = IsSetBy hash_by

abbrev pub IsSameMap : (Place → Option Key) → Places → Places → Type 0
IsSameMap = IsSameMapBy hash_by
