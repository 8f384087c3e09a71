-- How a cursor moves on, and what a pass finds at its next place.
use Rattle.std.specs.Prelude.{◌≡◌, ℕ, suc, ◌+◌, ◌<◌, ◌≤◌, ◌⊎◌, Bool, true, false, if◌then◌else◌, List, [], ◌∷◌, ◌++◌}
use Rattle.std.specs.Prelude.{length, drop, Option, Some, None}
use Rattle.entry.specs.declared.entry.Entry.{Entry}
use Rattle.entry.specs.declared.entry.Entry.TheVariants as entry
use Rattle.entry.specs.Format.{spelling, IsEntry}
use Rattle.entry.specs.Text.{text_of, is_data}
use Rattle.places.specs.declared.place.Place.{Place}
use Rattle.places.specs.Map.{Places}
use Rattle.places.specs.Relocation.{held_of, holds}
use Rattle.images.specs.Image.{Image}
use Rattle.images.specs.Steps.{len_at}
use Rattle.compactor.specs.Kept.{kept, has_id}
use Rattle.compactor.specs.Places.{LiesAt, IsAtPlace}
use Rattle.cleaner.specs.declared.ahead.Seen.{Seen}
use Rattle.cleaner.specs.declared.ahead.Seen.TheVariants as seen
use Rattle.cleaner.specs.declared.pass.Cursor.{Cursor}
use Rattle.cleaner.specs.declared.pass.Copied.{Copied}
use Rattle.cleaner.specs.declared.survivors.Survivors.{Survivors}
use Rattle.cleaner.specs.declared.treating.Fate.{Fate}
use Rattle.cleaner.specs.declared.treating.Fate.TheVariants as fate
use Rattle.cleaner.specs.declared.walking.WalkPosition.{WalkPosition}
use Rattle.cleaner.specs.Passes.{images_in, places_past, places_on, seen_len, IsCursorAt}
use Rattle.cleaner.specs.Passes.{level_at, filling_with, copied_as, copy_place, images_with, held_with}

-- ---- the cursor

-- An entry begins at the offset, or the entries end there.
pub record IsBetween (es : List Entry) (at : ℕ) : Type 0 where
  pub before : List Entry
  pub rest : List Entry
  pub split : es ≡ before ++ rest
  pub offset : at ≡ length (text_of before)

-- an entry begins at the offset of the first of these segments, or its entries end there, or there is no segment
abbrev pub IsPositionBetween : (ℕ → List Entry) → List ℕ → ℕ → Type 0
IsPositionBetween images [] at = Unit {0}
IsPositionBetween images (s ∷ ids) at = IsBetween (images s) at

-- an object or a tombstone stands at the offset
abbrev pub IsAtData : List Entry → ℕ → Type 0
IsAtData es at = (e : Entry) × LiesAt es at e × (is_data e ≡ true)

-- an object or a tombstone stands at the offset of the first of these segments, or there is no segment
abbrev pub IsSpotAt : (ℕ → List Entry) → List ℕ → ℕ → Type 0
IsSpotAt images [] at = Unit {0}
IsSpotAt images (s ∷ ids) at = IsAtData (images s) at

-- the offset that was found has the first object or tombstone from an offset on; if none was found, there is none
abbrev pub FindsData : List Entry → ℕ → Option ℕ → Type 0
FindsData es at None = (s : ℕ) → places_past s at es ≡ []
FindsData es at (Some n) = IsAtData es n × ((s : ℕ) → places_past s n es ≡ places_past s at es)

-- The position `to` is at an object or tombstone, or behind the last victim. The places from `to` on are those from
-- `from` on.
pub record GoesOn (images : ℕ → List Entry) (victims : List ℕ) (from to : WalkPosition) : Type 0 where
  pub within : to.victim ≤ length victims
  pub rest : places_on images (drop to.victim victims) to.at ≡ places_on images (drop from.victim victims) from.at
  pub position : IsSpotAt images (drop to.victim victims) to.at

-- The same is true of a cursor, which has also read ahead at its position.
pub record GoesTo (seed : List ℕ) (images : ℕ → List Entry) (victims : List ℕ) (from : WalkPosition) (to : Cursor)
    : Type 0 where
  pub within : to.victim ≤ length victims
  pub rest : places_on images (drop to.victim victims) to.at ≡ places_on images (drop from.victim victims) from.at
  pub cursor : IsCursorAt seed images (drop to.victim victims) to

-- ---- entries that are read ahead

-- whether the object or tombstone at a place is kept, by what is remembered of it
abbrev pub is_seen_kept : List ℕ → Places → Place → Seen → Bool
is_seen_kept ids held p (seen.Object hash len) = holds held (record { hash = hash; place = p })
is_seen_kept ids held p (seen.Tombstone segment len) = has_id ids segment

-- the lengths of the kept ones among entries that follow one another from an offset on
abbrev pub seen_lengths : List ℕ → Places → ℕ → ℕ → List Seen → List ℕ
seen_lengths ids held s at [] = []
seen_lengths ids held s at (x ∷ xs) =
    let later = seen_lengths ids held s (at + seen_len x) xs in
    if is_seen_kept ids held (record { segment = s; at = at }) x then seen_len x ∷ later else later

-- the entry is no longer than a segment may be
abbrev pub IsShort : Seen → Type 0
IsShort x = seen_len x ≤ 8388608

-- ---- the entry

-- what becomes of the entry at a place, by whether it is kept
abbrev pub fate_by : Places → Bool → Place → Entry → Fate
fate_by held false p e = fate.Dead
fate_by held true p (entry.Header h) = fate.Tombstone
fate_by held true p (entry.Digest ids) = fate.Tombstone
fate_by held true p (entry.Safe version) = fate.Tombstone
fate_by held true p (entry.Object o) = fate.Object (held_of held o.key p)
fate_by held true p (entry.Tombstone t) = fate.Tombstone

-- An object or tombstone of this length stands at the place.
pub record IsSeen (images : ℕ → List Entry) (p : Place) (len : ℕ) (e : Entry) : Type 0 where
  pub stands : IsAtPlace images p e
  pub valid : IsEntry e
  pub of_data : is_data e ≡ true
  pub size : len ≡ length (spelling e)

-- the fate is what becomes of the object or tombstone at the place
abbrev pub HasFate : List ℕ → Places → (ℕ → List Entry) → Place → Fate → ℕ → Type 0
HasFate ids held images p f len = (e : Entry) × IsSeen images p len e × (f ≡ fate_by held (kept ids held p e) p e)

-- The survivor that is filled has room for n more bytes, or there is a next survivor that has.
abbrev pub HasPlace : ℕ → Survivors → ℕ → List Image → ℕ → Type 0
HasPlace segment s filling images n =
    (filling < s.count) × ((len_at images (s.first + filling) + n ≤ segment)
    ⊎ ((suc filling < s.count) × (len_at images (s.first + suc filling) + n ≤ segment)))

-- The object or tombstone at the place is treated.
pub record Treats (segment : ℕ) (ids : List ℕ) (images : List Image) (held : Places) (p : Place) (s : Survivors)
    (filling : ℕ) (copied : Copied) (len filling_after : ℕ) (images_after : List Image) (held_after : Places) : Type 0
  where
    pub entry : Entry
    pub seen : IsSeen (images_in images) p len entry
    pub told : copied ≡ copied_as (kept ids held p entry) entry
    pub filled : filling_after ≡ filling_with (kept ids held p entry) segment (level_at s filling images) entry
    pub grown : images_after ≡ images_with (kept ids held p entry) (s.first + filling_after) entry images
    pub index : held_after
        ≡ held_with (kept ids held p entry) p (copy_place (s.first + filling_after) images) entry held
