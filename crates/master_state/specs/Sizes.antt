-- The sizes of the live objects.
use Rattle.std.specs.Prelude.{◌≡◌, ℕ, ◌+◌, List, [], ◌∷◌, ◌++◌, length, map, true, Option, Some, None, if◌then◌else◌}
use Rattle.std.specs.List.{flat_map}
use Rattle.std.specs.List.Sorted.{IsPermutation}
use Rattle.std.specs.Option.{option_to_list}
use Rattle.entry.specs.declared.entry.Object.{Object}
use Rattle.entry.specs.declared.entry.Entry.{Entry}
use Rattle.entry.specs.declared.entry.Entry.TheVariants as entry
use Rattle.entry.specs.declared.tablet.Size.{Size}
use Rattle.entry.specs.Format.{spelling}
use Rattle.entry.specs.Key.{place_of}
use Rattle.entry.specs.Meaning.{Contents, contents_of}
use Rattle.places.specs.declared.place.Place.{Place}
use Rattle.places.specs.Map.{Places}
use Rattle.places.specs.Relocation.{names}
use Rattle.images.specs.Image.{Image}
use Rattle.tablet_will.specs.Sizes.{are_in_order}
use Rattle.master_state.specs.Data.{MasterData}

-- ---- what is answered

-- the size of an object: its table, the place of its key, and the length of its entry in bytes
abbrev pub size_of : Object → Size
size_of o = record {
  table = o.key.table;
  place = place_of o.key.bytes;
  bytes = length (spelling (entry.Object o));
}

-- no key has two objects in the list
abbrev pub AreOnce : List Object → Type 0
AreOnce [] = Unit {0}
AreOnce (o ∷ os) = (contents_of os o.key ≡ None) × AreOnce os

-- The list has the size of each object of the contents once, sorted by table and then by place.
pub record AreSizesOf (contents : Contents) (sizes : List Size) : Type 0 where
  pub objects : List Object
  pub all : contents_of objects ≡ contents
  pub once : AreOnce objects
  pub of_objects : IsPermutation (map size_of objects) sizes
  pub order : are_in_order sizes ≡ true

-- ---- how they are found

-- the object, if the entry is an object and the index names this place for its key
abbrev pub live_at : Places → Place → Entry → Option Object
live_at held p (entry.Header h) = None
live_at held p (entry.Digest l) = None
live_at held p (entry.Safe version) = None
live_at held p (entry.Object o) = if names held o.key p then Some o else None
live_at held p (entry.Tombstone t) = None

-- the live objects among these entries of a segment, which begin at this offset
abbrev pub live_from : Places → ℕ → ℕ → List Entry → List Object
live_from held segment at [] = []
live_from held segment at (e ∷ es) =
    option_to_list (live_at held (record { segment = segment; at = at }) e)
    ++ live_from held segment (at + length (spelling e)) es

-- the live objects of the closed segments
abbrev pub live_closed : Places → List Image → List Object
live_closed held images = flat_map (λ (image : Image). live_from held image.id 0 image.segment) images

-- the live objects of all closed segments and of the head
abbrev pub live_objects : MasterData → List Object
live_objects d = live_closed d.index d.closed ++ live_from d.index d.head.id 0 d.head.image
