-- What the index finds.
use Rattle.std.specs.Prelude.{◌≡◌, ℕ, List, Option, Some, None}
use Rattle.std.specs.Option.{option_map, option_map_or}
use Rattle.entry.specs.declared.key.Key.{Key}
use Rattle.entry.specs.declared.entry.Entry.{Entry}
use Rattle.entry.specs.declared.view.ObjectRef.{ObjectRef}
use Rattle.entry.specs.Meaning.{Versioned, versioned, object_at}
use Rattle.entry.specs.View.{shown_object}
use Rattle.places.specs.declared.place.Place.{Place}
use Rattle.places.specs.Map.{Places, found}
use Rattle.cleaner.specs.compactor.Places.{IsAtPlace, object_there, keys_in}

-- If the key has an object, a place was found, and this object lies there. If the key has none, no place was found.
abbrev pub LiesFound : (ℕ → List Entry) → Key → Option Place → Option Versioned → Type 0
LiesFound images k None None = Unit {0}
LiesFound images k None (Some x) = ⊥
LiesFound images k (Some p) None = ⊥
LiesFound images k (Some p) (Some x) = IsAtPlace images p (object_at k x)

-- the segment of a place; 0, which nothing depends on, if there is no place
abbrev pub segment_at : Option Place → ℕ
segment_at place = option_map_or (λ (p : Place). p.segment) place 0

-- the place that was found, if any
abbrev pub place_found : Option (Place × ObjectRef) → Option Place
place_found found = option_map (λ (f : Place × ObjectRef). f.0) found

-- the version and the value of the object that was found, if any
abbrev pub object_found : Option (Place × ObjectRef) → Option Versioned
object_found found = option_map (λ (f : Place × ObjectRef). versioned (shown_object f.1)) found

-- What was found is the place that the index has for the key, and the object that stands there; or the index finds no
-- place for the key, and nothing was found.
abbrev pub FindsObject : (ℕ → List Entry) → Places → Key → Option (Place × ObjectRef) → Type 0
FindsObject images index k None = found (keys_in images) k index ≡ None
FindsObject images index k (Some f) =
    (found (keys_in images) k index ≡ Some f.0) × (object_there images f.0 ≡ Some (shown_object f.1))
