-- The lengths of what a pass keeps, and whether its survivors have room for it.
use Rattle.std.specs.Prelude.{◌≡◌, ℕ, ◌+◌, ◌<◌, if◌then◌else◌, List, [], ◌∷◌, ◌++◌, length, map, filter, sum_by}
use Rattle.std.specs.Prelude.{Option, Some, None}
use Rattle.entry.specs.declared.entry.Entry.{Entry}
use Rattle.entry.specs.Format.{spelling}
use Rattle.entry.specs.Text.{text_of, is_data}
use Rattle.segment.specs.Bytes.{standing_at}
use Rattle.places.specs.declared.place.Place.{Place}
use Rattle.places.specs.Map.{Places}
use Rattle.images.specs.Image.{Image}
use Rattle.compactor.specs.Kept.{kept, kept_of}
use Rattle.cleaner.specs.declared.pass.Pass.{Pass}
use Rattle.cleaner.specs.Filling.{survivors_for, HasRooms}
use Rattle.cleaner.specs.Passes.{images_in, places_of, rest_of, level_of}

-- ---- lengths

-- the length of the entry at a place, if there is one and it is kept
abbrev pub lengths_at : List ℕ → Places → Place → Option Entry → List ℕ
lengths_at ids held p None = []
lengths_at ids held p (Some e) = if kept ids held p e then length (spelling e) ∷ [] else []

-- the lengths of what is kept at some places, in order
abbrev pub kept_lengths : List ℕ → Places → (ℕ → List Entry) → List Place → List ℕ
kept_lengths ids held images [] = []
kept_lengths ids held images (p ∷ ps) =
    lengths_at ids held p (standing_at p.at (text_of (images p.segment))) ++ kept_lengths ids held images ps

-- how many survivors the kept entries of these victims fill
abbrev pub survivors_over : ℕ → List ℕ → Places → (ℕ → List Entry) → List ℕ → ℕ
survivors_over segment ids held images victims =
    survivors_for segment (kept_lengths ids held images (places_of images victims))

-- the lengths of the objects and tombstones that are kept of a segment with these entries
abbrev pub segment_lengths : List ℕ → Places → ℕ → List Entry → List ℕ
segment_lengths ids held s es =
    map (λ (e : Entry). length (spelling e)) (filter is_data (kept_of ids held s es))

-- how many bytes some segments have together
abbrev pub bytes_in : (ℕ → List Entry) → List ℕ → ℕ
bytes_in images ids = sum_by (λ (s : ℕ). length (text_of (images s))) ids

-- ---- a pass as it goes on

-- the lengths of the entries that a pass still has to copy, if none of them dies
abbrev pub lengths_left : List ℕ → Pass → List Image → Places → List ℕ
lengths_left ids p images held = kept_lengths ids held (images_in images) (rest_of (images_in images) p)

-- The survivors behind the one that is filled have their header alone.
abbrev pub AreBlank : Pass → List Image → Type 0
AreBlank p images = (i : ℕ) → p.filling < i → i < p.survivors.count
    → length (text_of (images_in images (p.survivors.first + i))) ≡ 18

-- The survivors have room for what the pass still has to copy.
pub record HasRoomsIn (segment : ℕ) (ids : List ℕ) (p : Pass) (images : List Image) (held : Places) : Type 0 where
  pub rooms : HasRooms segment p.survivors.count (level_of p images) (lengths_left ids p images held)
  pub blank : AreBlank p images
