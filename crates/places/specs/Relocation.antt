-- Words about the places of an index, for the crates above an index.
use Rattle.std.specs.Prelude.{ℕ, List, [], map, Bool}
use Rattle.std.specs.List.{AllByRecursion}
use Rattle.entry.specs.declared.key.Key.{Key}
use Rattle.places.specs.declared.place.Place.{Place}
use Rattle.places.specs.declared.place.Held.{Held}
use Rattle.places.specs.Hashing.{hash_of}
use Rattle.places.specs.Lists.{holds_in, relocated_in}
use Rattle.places.specs.Map.{Places}

-- an index without places
abbrev pub no_places : List ℕ → Places
no_places seed = record { seed = seed; list = [] }

-- the index holds this place under this hash
abbrev pub holds : Places → Held → Bool
holds ps h = holds_in ps.list h

-- the index after this place under this hash became another place
abbrev pub relocated : Held → Place → Places → Places
relocated h to ps = record ps { list = relocated_in h to ps.list }

-- the place as the index holds it for this key: under the hash of the key
abbrev pub held_of : Places → Key → Place → Held
held_of ps k p = record { hash = hash_of ps.seed k; place = p }

-- the index names this place for the key: it holds the place under the key's hash
abbrev pub names : Places → Key → Place → Bool
names ps k p = holds ps (held_of ps k p)

-- the index after the key's place, which it named for the key, became another place
abbrev pub moved : Places → Key → Place → Place → Places
moved ps k p to = relocated (held_of ps k p) to ps

-- the index after each of its places became another one
abbrev pub goes_all : (Place → Place) → Places → Places
goes_all goes ps = record ps { list = map (λ (h : Held). record h { place = goes h.place }) ps.list }

-- the predicate is true of each place
abbrev pub AllPlaces : (Place → Type 0) → Places → Type 0
AllPlaces P ps = AllByRecursion (λ (h : Held). P h.place) ps.list
