-- What becomes of the index while a segment is compacted.
use Rattle.std.specs.Prelude.{◌≡◌, ℕ, List}
use Rattle.entry.specs.declared.entry.Entry.{Entry}
use Rattle.entry.specs.declared.entry.Entry.TheVariants as entry
use Rattle.places.specs.declared.place.Place.{Place}
use Rattle.places.specs.Map.{Places, AreKept}
use Rattle.places.specs.Relocation.{moved}
use Rattle.compactor.specs.Kept.{moved_all}
use Rattle.compactor.specs.Places.{keys_in, LieIn}

-- what the index holds after an entry moved from one place to another: only the place of an object changes
abbrev pub moved_one : Place → Place → Entry → Places → Places
moved_one p to (entry.Header h) held = held
moved_one p to (entry.Digest l) held = held
moved_one p to (entry.Safe version) held = held
moved_one p to (entry.Object o) held = moved held o.key p to
moved_one p to (entry.Tombstone t) held = held

-- If the old index leads to objects of some images, and the segment is one of these images, then the new index holds
-- each place where it went with its object.
abbrev pub Follows : List ℕ → ℕ → List Entry → Places → Places → Type 0
Follows ids segment es old new =
    (images : ℕ → List Entry) → images segment ≡ es → LieIn images old → AreKept (keys_in images) old
    → new ≡ moved_all ids old segment es
