-- Texts of objects: their spellings, one after the other.
use Rattle.std.specs.Prelude.{◌≡◌, ℕ, ◌-◌, List, length, take, map, Option, Some, None}
use Rattle.std.specs.List.{filter_map, AllByRecursion}
use Rattle.entry.specs.declared.entry.Object.{Object}
use Rattle.entry.specs.declared.entry.Entry.{Entry}
use Rattle.entry.specs.declared.entry.Entry.TheVariants as entry
use Rattle.entry.specs.Format.{IsObject}
use Rattle.entry.specs.Text.{text_of, entries_in}

-- the entry's object, or None if the entry is of another kind
abbrev pub as_object : Entry → Option Object
as_object (entry.Header h) = None
as_object (entry.Digest ids) = None
as_object (entry.Safe version) = None
as_object (entry.Object o) = Some o
as_object (entry.Tombstone t) = None

-- the objects in the bytes, one after the other
abbrev pub objects_in : List ℕ → List Object
objects_in bytes = filter_map as_object (entries_in bytes)

abbrev pub as_entries : List Object → List Entry
as_entries os = map (λ (o : Object). entry.Object o) os

-- the spellings of the objects, one after the other
abbrev pub text_of_objects : List Object → List ℕ
text_of_objects os = text_of (as_entries os)

-- the bytes are the text of the objects in them, and have nothing else
pub record IsObjectText (bytes : List ℕ) : Type 0 where
  pub each : AllByRecursion IsObject (objects_in bytes)
  pub text : bytes ≡ text_of_objects (objects_in bytes)

-- all objects but the last one
abbrev pub but_last : List Object → List Object
but_last os = take (length os - 1) os

-- the bytes are a text of so many objects, of which the last begins at the offset
pub record IsObjectList (bytes : List ℕ) (count last : ℕ) : Type 0 where
  pub spelled : IsObjectText bytes
  pub many : count ≡ length (objects_in bytes)
  pub place : last ≡ length (text_of_objects (but_last (objects_in bytes)))
