-- Objects of a segment whose places an index is asked for.
use Rattle.std.specs.Prelude.{ℕ, ◌+◌, List, [], ◌∷◌, ◌&&◌, if◌then◌else◌}
use Rattle.entry.specs.declared.entry.Entry.{Entry}
use Rattle.entry.specs.Text.{is_data}
use Rattle.places.specs.declared.place.Place.{Place}
use Rattle.places.specs.declared.place.Held.{Held}
use Rattle.places.specs.Map.{Places}
use Rattle.places.specs.Relocation.{holds}
use Rattle.compactor.specs.declared.keeping.Asked.{Asked}
use Rattle.compactor.specs.Kept.{kept}

-- the hash and the place for which the index is asked
abbrev pub asked_of : ℕ → Asked → Held
asked_of id a = record { hash = a.hash; place = record { segment = id; at = a.at } }

-- the bytes of these objects
abbrev pub asked_bytes : List Asked → ℕ
asked_bytes [] = 0
asked_bytes (a ∷ others) = a.len + asked_bytes others

-- the bytes of those objects that the index holds
abbrev pub held_bytes : Places → ℕ → List Asked → ℕ
held_bytes held id [] = 0
held_bytes held id (a ∷ others) = (if holds held (asked_of id a) then a.len else 0) + held_bytes held id others

-- the bytes of an entry if it is an object or a tombstone that is kept, else 0
abbrev pub counted : List ℕ → Places → Place → Entry → ℕ → ℕ
counted ids held p e len = if is_data e && kept ids held p e then len else 0
