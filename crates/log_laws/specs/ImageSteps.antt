-- How images and index change when a pass begins, an entry is copied or entries are appended.
use Rattle.std.specs.Prelude.{ℕ, List, [], ◌∷◌, length, Bool, false, Option, Some, None, if◌then◌else◌}
use Rattle.entry.specs.declared.key.Key.{Key}
use Rattle.entry.specs.declared.entry.Entry.{Entry}
use Rattle.entry.specs.declared.entry.Entry.TheVariants as entry
use Rattle.entry.specs.Order.{key_eq}
use Rattle.log_laws.specs.Ids.{has}
use Rattle.log_laws.specs.Compaction.{kept}
use Rattle.log_laws.specs.Intact.{survivor_entries}
use Rattle.log_laws.specs.Memory.{Place, Index, Images, grown}

-- ---- a pass begins

-- images once each of these survivors has its header alone
abbrev pub survivors_begun : ℕ → List ℕ → Images → Images
survivors_begun master survivors image = λ s. if has survivors s then survivor_entries master s else image s

-- ---- a copy

-- the index with another place, or none, for one key
abbrev pub with_place : Index → Key → Option Place → Index
with_place index k x = λ q. if key_eq q k then x else index q

-- the place of the next entry of a segment
abbrev pub next_place : Images → ℕ → Place
next_place image s = record { segment = s; position = length (image s) }

-- True if a pass copies the entry at this place to a survivor: an object or tombstone that compaction would keep. The
-- entries of an opening aren't copied.
abbrev pub is_copied : List ℕ → Index → Place → Entry → Bool
is_copied ids index p (entry.Header h) = false
is_copied ids index p (entry.Digest l) = false
is_copied ids index p (entry.Safe version) = false
is_copied ids index p (entry.Object o) = kept ids index p.segment p.position (entry.Object o)
is_copied ids index p (entry.Tombstone t) = kept ids index p.segment p.position (entry.Tombstone t)

-- ---- a command

-- the index once an entry is appended to the segment: an object's key gets the new place, a tombstone's key none
abbrev pub index_after : Images → Index → ℕ → Entry → Index
index_after images index s (entry.Header h) = index
index_after images index s (entry.Digest ids) = index
index_after images index s (entry.Safe version) = index
index_after images index s (entry.Object o) = with_place index o.key (Some (next_place images s))
index_after images index s (entry.Tombstone t) = with_place index t.key None

-- the images once entries are appended to the segment, one after the other
abbrev pub images_with : Images → ℕ → List Entry → Images
images_with images s [] = images
images_with images s (e ∷ es) = images_with (grown images s e) s es

-- the index once entries are appended to the segment, one after the other
abbrev pub index_with : Images → Index → ℕ → List Entry → Index
index_with images index s [] = index
index_with images index s (e ∷ es) = index_with (grown images s e) (index_after images index s e) s es
