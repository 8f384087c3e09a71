-- Where entries stand in an image, and which keys the images give to an index.
use Rattle.std.specs.Prelude.{◌≡◌, ℕ, List, ◌∷◌, ◌++◌, length, Option, Some, None}
use Rattle.std.specs.Option.{option_map, option_and_then}
use Rattle.entry.specs.declared.key.Key.{Key}
use Rattle.entry.specs.declared.entry.Object.{Object}
use Rattle.entry.specs.declared.entry.Entry.{Entry}
use Rattle.entry.specs.declared.entry.Entry.TheVariants as entry
use Rattle.entry.specs.Text.{text_of}
use Rattle.segment.specs.Bytes.{standing_at}
use Rattle.places.specs.declared.place.Place.{Place}
use Rattle.places.specs.Map.{Places}
use Rattle.places.specs.Relocation.{AllPlaces}

-- the entry stands at this offset of the image
pub record LiesAt (image : List Entry) (at : ℕ) (e : Entry) : Type 0 where
  pub before : List Entry
  pub after : List Entry
  pub split : image ≡ before ++ e ∷ after
  pub offset : at ≡ length (text_of before)

-- the entry is at this place of the images
abbrev pub IsAtPlace : (ℕ → List Entry) → Place → Entry → Type 0
IsAtPlace images p e = LiesAt (images p.segment) p.at e

-- the object, if the entry is an object
abbrev pub as_object : Entry → Option Object
as_object (entry.Header h) = None
as_object (entry.Digest ids) = None
as_object (entry.Safe version) = None
as_object (entry.Object o) = Some o
as_object (entry.Tombstone t) = None

-- the object that stands at an offset of an image
abbrev pub object_in : List Entry → ℕ → Option Object
object_in image at = option_and_then as_object (standing_at at (text_of image))

-- the object that stands at a place
abbrev pub object_there : (ℕ → List Entry) → Place → Option Object
object_there images p = object_in (images p.segment) p.at

-- the key of the object at each place
abbrev pub keys_in : (ℕ → List Entry) → Place → Option Key
keys_in images p = option_map (λ (o : Object). o.key) (object_there images p)

-- at each place lies an object of the images
abbrev pub LieIn : (ℕ → List Entry) → Places → Type 0
LieIn images ps = AllPlaces (λ (p : Place). (o : Object) × IsAtPlace images p (entry.Object o)) ps
