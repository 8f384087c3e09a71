-- A pass over victims: the places that it still has to treat, and what it does at one of them.
use Rattle.std.specs.Prelude.{◌≡◌, ℕ, ◌+◌, ◌^◌, ◌≤◌, ◌<◌, ◌==◌, Bool, true, false, ◌&&◌, if◌then◌else◌, nat_le}
use Rattle.std.specs.Prelude.{List, [], ◌∷◌, ◌++◌, length, map, drop, filter, Option, Some, None, IsSome, is_none}
use Rattle.std.specs.Prelude.{slice_get, unwrap_or}
use Rattle.std.specs.List.{AllByRecursion, range_with_len}
use Rattle.std.specs.Option.{option_map, option_to_list}
use Rattle.entry.specs.declared.entry.Entry.{Entry}
use Rattle.entry.specs.declared.entry.Entry.TheVariants as entry
use Rattle.entry.specs.Bag.{IsAmong}
use Rattle.entry.specs.Format.{spelling, IsEntry}
use Rattle.entry.specs.Text.{text_of, is_data}
use Rattle.places.specs.declared.place.Place.{Place}
use Rattle.places.specs.Hashing.{hash_of}
use Rattle.places.specs.Map.{Places}
use Rattle.images.specs.Image.{Image}
use Rattle.images.specs.Sorted.{IsWhole, segment_of, changed}
use Rattle.images.specs.Steps.{with_unit, len_at}
use Rattle.compactor.specs.Kept.{kept}
use Rattle.compactor.specs.Moved.{moved_one}
use Rattle.compactor.specs.Places.{LiesAt, IsAtPlace}
use Rattle.cleaner.specs.declared.ahead.Seen.{Seen}
use Rattle.cleaner.specs.declared.ahead.Seen.TheVariants as seen
use Rattle.cleaner.specs.declared.level.Level.{Level}
use Rattle.cleaner.specs.declared.survivors.Survivors.{Survivors}
use Rattle.cleaner.specs.declared.pass.Cursor.{Cursor}
use Rattle.cleaner.specs.declared.pass.Pass.{Pass}
use Rattle.cleaner.specs.declared.pass.Copied.{Copied}
use Rattle.cleaner.specs.declared.pass.Copied.TheVariants.{Moved, Carried, Dropped}
use Rattle.cleaner.specs.Filling.{filled_one}
use Rattle.cleaner.specs.Seals.{first_lacking}

-- ---- images

-- the entries of a segment among some images; none if it has no image
abbrev pub images_in : List Image → ℕ → List Entry
images_in images s = unwrap_or (segment_of images s) []

-- the ids of the log set: those of the images, the head, and the head that is being opened
abbrev pub ids_in : List Image → ℕ → Option ℕ → List ℕ
ids_in images head new = map (λ (image : Image). image.id) images ++ head ∷ option_to_list new

-- each of the segments has an image, and is below the first survivor
abbrev pub AreVictims : List Image → ℕ → List ℕ → Type 0
AreVictims images survivor ids = AllByRecursion (λ (s : ℕ). IsSome (segment_of images s) × (s < survivor)) ids

-- ---- survivors

-- the ids of the survivors, which follow one another
abbrev pub survivor_ids : Survivors → List ℕ
survivor_ids s = range_with_len s.first s.count

-- each survivor's id is at most 2^62
abbrev pub AreIds : Survivors → Type 0
AreIds s = s.first + s.count ≤ 2 ^ 62 + 1

-- ---- places

-- the places of the objects and tombstones among a segment's entries, the first of which begins at the offset
abbrev pub places_from : ℕ → ℕ → List Entry → List Place
places_from segment at [] = []
places_from segment at (e ∷ es) =
    let later = places_from segment (at + length (spelling e)) es in
    if is_data e then record { segment = segment; at = at } ∷ later else later

-- the places of a segment's objects and tombstones from an offset on
abbrev pub places_past : ℕ → ℕ → List Entry → List Place
places_past segment at es = filter (λ (p : Place). nat_le at p.at) (places_from segment 0 es)

-- the places of the objects and tombstones of some segments, in order
abbrev pub places_of : (ℕ → List Entry) → List ℕ → List Place
places_of images [] = []
places_of images (s ∷ ids) = places_from s 0 (images s) ++ places_of images ids

-- the places of the first segment from an offset on, and the places of the other segments
abbrev pub places_on : (ℕ → List Entry) → List ℕ → ℕ → List Place
places_on images [] at = []
places_on images (s ∷ ids) at = places_past s at (images s) ++ places_of images ids

-- ---- a pass

-- the places that a pass still has to treat, in order
abbrev pub rest_of : (ℕ → List Entry) → Pass → List Place
rest_of images p = places_on images (drop p.cursor.victim p.victims) p.cursor.at

abbrev pub is_at_end : Pass → Bool
is_at_end p = p.cursor.victim == length p.victims

-- nothing is left to copy, and each survivor has all its replicas
abbrev pub is_ready : ℕ → List Image → Pass → Bool
is_ready replicas images p = is_at_end p && is_none (first_lacking replicas images (survivor_ids p.survivors))

-- the survivor that is sealed next, and how many replicas it has; none before all is copied, nor once all is sealed
abbrev pub next_seal : ℕ → List Image → Pass → Option (ℕ × ℕ)
next_seal replicas images p =
    if is_at_end p then first_lacking replicas images (survivor_ids p.survivors) else None

-- which survivor is filled, and how many bytes it has
abbrev pub level_at : Survivors → ℕ → List Image → Level
level_at s filling images =
    record { survivor = filling; len = length (text_of (images_in images (s.first + filling))) }

abbrev pub level_of : Pass → List Image → Level
level_of p images = level_at p.survivors p.filling images

-- What a pass remembers of an object or a tombstone that it read. It is right for an index whose hashes have this seed.
abbrev pub seen_of : List ℕ → Entry → Option Seen
seen_of seed (entry.Header h) = None
seen_of seed (entry.Digest ids) = None
seen_of seed (entry.Safe version) = None
seen_of seed (entry.Object o) = Some (seen.Object (hash_of seed o.key) (length (spelling (entry.Object o))))
seen_of seed (entry.Tombstone t) = Some (seen.Tombstone t.segment (length (spelling (entry.Tombstone t))))

-- the length of the entry
abbrev pub seen_len : Seen → ℕ
seen_len (seen.Object hash len) = len
seen_len (seen.Tombstone segment len) = len

-- the length of the entry that a pass treats next; 0 at the end
abbrev pub next_len : Pass → ℕ
next_len p = unwrap_or (option_map seen_len (slice_get p.cursor.ahead 0)) 0

-- An object or a tombstone stands at the offset, and this is what is remembered of it.
pub record IsSeenAt (seed : List ℕ) (es : List Entry) (at : ℕ) (x : Seen) : Type 0 where
  pub entry : Entry
  pub lies : LiesAt es at entry
  pub valid : IsEntry entry
  pub shows : seen_of seed entry ≡ Some x
  pub limit : at + seen_len x ≤ 8388608

-- entries stand one after another from the offset on, and this is what is remembered of them
abbrev pub AreSeenFrom : List ℕ → List Entry → ℕ → List Seen → Type 0
AreSeenFrom seed es at [] = Unit {0}
AreSeenFrom seed es at (x ∷ xs) = IsSeenAt seed es at x × AreSeenFrom seed es (at + seen_len x) xs

-- the same, of at least one entry
abbrev pub IsAhead : List ℕ → List Entry → ℕ → List Seen → Type 0
IsAhead seed es at [] = ⊥
IsAhead seed es at (x ∷ xs) = AreSeenFrom seed es at (x ∷ xs)

-- What the cursor read ahead begins at its offset in the first of these segments, or there is no segment.
abbrev pub IsCursorAt : List ℕ → (ℕ → List Entry) → List ℕ → Cursor → Type 0
IsCursorAt seed images [] cursor = Unit {0}
IsCursorAt seed images (s ∷ ids) cursor = IsAhead seed (images s) cursor.at cursor.ahead

-- What is true of an open pass and the images, for an index whose hashes have this seed.
pub record IsPass (seed : List ℕ) (images : List Image) (p : Pass) : Type 0 where
  pub victims : AreVictims images p.survivors.first p.victims
  pub whole : AllByRecursion (IsWhole images) (survivor_ids p.survivors)
  pub numbers : AreIds p.survivors
  pub within : p.cursor.victim ≤ length p.victims
  pub cursor : IsCursorAt seed (images_in images) (drop p.cursor.victim p.victims) p.cursor

-- ---- one entry

-- what becomes of an entry, by whether it is kept
abbrev pub copied_as : Bool → Entry → Copied
copied_as false e = Dropped
copied_as true (entry.Header h) = Carried
copied_as true (entry.Digest ids) = Carried
copied_as true (entry.Safe version) = Carried
copied_as true (entry.Object o) = Moved
copied_as true (entry.Tombstone t) = Carried

-- which survivor is filled once an entry was treated: a kept one that doesn't fit begins the next
abbrev pub filling_with : Bool → ℕ → Level → Entry → ℕ
filling_with is_kept segment a e =
    if is_kept then (filled_one segment a (length (spelling e))).survivor else a.survivor

-- the place of the next copy: the end of the survivor's image
abbrev pub copy_place : ℕ → List Image → Place
copy_place survivor images = record { segment = survivor; at = len_at images survivor }

-- the images after an entry: if it is kept, the survivor ends with it
abbrev pub images_with : Bool → ℕ → Entry → List Image → List Image
images_with is_kept survivor e images = if is_kept then changed images survivor (with_unit (e ∷ [])) else images

-- what the index holds after an entry: it holds a kept object where the copy lies
abbrev pub held_with : Bool → Place → Place → Entry → Places → Places
held_with is_kept p to e held = if is_kept then moved_one p to e held else held

-- The pass treats the entry at its next place. A kept entry goes to the end of the survivor that is filled. If it
-- doesn't fit there, it goes to the next survivor.
pub record CopiesOne (segment : ℕ) (ids : List ℕ) (p : Pass) (images : List Image) (held : Places) (copied : Copied)
    (q : Pass) (images_after : List Image) (held_after : Places) : Type 0 where
  pub place : Place
  pub later : List Place
  pub entry : Entry
  pub first : rest_of (images_in images) p ≡ place ∷ later
  pub victim : IsAmong place.segment p.victims
  pub stands : IsAtPlace (images_in images) place entry
  pub valid : IsEntry entry
  pub of_data : is_data entry ≡ true
  pub size : next_len p ≡ length (spelling entry)
  -- Moved or Carried if it is kept, else Dropped
  pub told : copied ≡ copied_as (kept ids held place entry) entry
  pub filling : q.filling ≡ filling_with (kept ids held place entry) segment (level_of p images) entry
  pub within : q.filling < p.survivors.count
  pub survivor : images_after
      ≡ images_with (kept ids held place entry) (p.survivors.first + q.filling) entry images
  pub index : held_after
      ≡ held_with (kept ids held place entry) place (copy_place (p.survivors.first + q.filling) images) entry held
  pub rest : rest_of (images_in images_after) q ≡ later
  pub pass : q ≡ record p { cursor = q.cursor; filling = q.filling }
