-- What compaction keeps of a segment, and where it goes.
use Rattle.std.specs.Prelude.{ℕ, ◌+◌, ◌==◌, Bool, true, List, [], ◌∷◌, length, take, if◌then◌else◌}
use Rattle.std.specs.List.{list_any}
use Rattle.entry.specs.declared.entry.Entry.{Entry}
use Rattle.entry.specs.declared.entry.Entry.TheVariants as entry
use Rattle.entry.specs.Format.{spelling}
use Rattle.entry.specs.Text.{text_of, entries_in}
use Rattle.places.specs.declared.place.Place.{Place}
use Rattle.places.specs.Map.{Places}
use Rattle.places.specs.Relocation.{names, goes_all}

-- ---- the kept entries

-- the id is one of these
abbrev pub has_id : List ℕ → ℕ → Bool
has_id ids id = list_any (λ (z : ℕ). z == id) ids

-- An object is kept if the index names its place, and a tombstone if the segment that it names is in the log set.
-- Opening entries are always kept.
abbrev pub kept : List ℕ → Places → Place → Entry → Bool
kept ids held p (entry.Header h) = true
kept ids held p (entry.Digest l) = true
kept ids held p (entry.Safe version) = true
kept ids held p (entry.Object o) = names held o.key p
kept ids held p (entry.Tombstone t) = has_id ids t.segment

-- the kept entries among those of a segment from an offset on, in their order
abbrev pub kept_from : List ℕ → Places → ℕ → ℕ → List Entry → List Entry
kept_from ids held segment at [] = []
kept_from ids held segment at (e ∷ es) =
    let rest = kept_from ids held segment (at + length (spelling e)) es in
    if kept ids held (record { segment = segment; at = at }) e then e ∷ rest else rest

-- the kept entries of a segment
abbrev pub kept_of : List ℕ → Places → ℕ → List Entry → List Entry
kept_of ids held segment es = kept_from ids held segment 0 es

-- ---- their places

-- the entries before an offset of a segment
abbrev pub entries_before : ℕ → List Entry → List Entry
entries_before at es = entries_in (take at (text_of es))

-- the offset after compaction of the entry that was at an offset: the bytes of the kept entries before it
abbrev pub moved_at : List ℕ → Places → ℕ → List Entry → ℕ → ℕ
moved_at ids held segment es at = length (text_of (kept_of ids held segment (entries_before at es)))

-- the place after compaction of the entry that was at a place; the places in other segments don't change
abbrev pub moved_place : List ℕ → Places → ℕ → List Entry → Place → Place
moved_place ids held segment es p =
    if p.segment == segment then record p { at = moved_at ids held segment es p.at } else p

-- what the index holds after compaction: each place has moved in this way
abbrev pub moved_all : List ℕ → Places → ℕ → List Entry → Places
moved_all ids held segment es = goes_all (moved_place ids held segment es) held
