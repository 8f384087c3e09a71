-- What the compaction of a segment does to an index, which is a map from keys to places.
use Rattle.std.specs.Prelude.{◌≡◌, ℕ, ◌==◌, List, Some, if◌then◌else◌}
use Rattle.std.specs.Option.{option_map}
use Rattle.entry.specs.declared.key.Key.{Key}
use Rattle.entry.specs.declared.entry.Object.{Object}
use Rattle.entry.specs.declared.entry.Entry.{Entry}
use Rattle.entry.specs.declared.entry.Entry.TheVariants as entry
use Rattle.entry.specs.Text.{IsSegment}
use Rattle.places.specs.declared.place.Place.{Place}
use Rattle.places.specs.Map.{Places, found, AreKept}
use Rattle.compactor.specs.Kept.{kept_of, moved_place, moved_all}
use Rattle.compactor.specs.Places.{IsAtPlace, keys_in, LieIn}

-- the images after the compaction of a segment
abbrev pub compacted_images : List ℕ → Places → (ℕ → List Entry) → ℕ → ℕ → List Entry
compacted_images ids held images segment s =
    if s == segment then kept_of ids held segment (images segment) else images s

-- In the later images, the new index leads to the same objects as the old index did before: a key is found where its
-- old place has gone, and its object lies there.
pub record LeadsOn (images later : ℕ → List Entry) (goes : Place → Place) (old new : Places) : Type 0 where
  pub kept : AreKept (keys_in later) new
  pub lie : LieIn later new
  pub finds : (k : Key) → found (keys_in later) k new ≡ option_map goes (found (keys_in images) k old)
  pub carries : (k : Key) (p : Place) (o : Object) → found (keys_in images) k old ≡ Some p
      → IsAtPlace images p (entry.Object o) → IsAtPlace later (goes p) (entry.Object o)

-- the index follows the compaction of a segment
abbrev pub IsFollowed : List ℕ → Places → (ℕ → List Entry) → ℕ → Type 0
IsFollowed ids held images segment =
    LeadsOn images (compacted_images ids held images segment) (moved_place ids held segment (images segment)) held
    (moved_all ids held segment (images segment))

abbrev pub CompactionFollows : Type 0
CompactionFollows = (ids : List ℕ) (held : Places) (images : ℕ → List Entry) (segment : ℕ)
    → IsSegment (images segment) → LieIn images held → AreKept (keys_in images) held
    → IsFollowed ids held images segment
