-- What compaction keeps of a segment's image, and where the kept entries go.
use Rattle.std.specs.Prelude.{ℕ, zero, suc, ◌==◌, Bool, true, false, ◌&&◌, if◌then◌else◌, List, [], ◌∷◌, ◌++◌}
use Rattle.std.specs.Prelude.{Option, Some, None}
use Rattle.entry.specs.declared.entry.Entry.{Entry}
use Rattle.entry.specs.declared.entry.Entry.TheVariants as entry
use Rattle.log_laws.specs.Ids.{has}
use Rattle.log_laws.specs.Memory.{Place, Index, Images}

-- ---- the kept entries

-- true if the place is that of entry `i` of segment `s`
abbrev pub is_place : Option Place → ℕ → ℕ → Bool
is_place None s i = false
is_place (Some p) s i = (p.segment == s) && (p.position == i)

-- True if compaction keeps entry `i` of segment `s`. An object is kept if the index names its place, so if it is live.
-- A tombstone is kept if the segment that it names is in the log set. The entries of an opening are always kept.
abbrev pub kept : List ℕ → Index → ℕ → ℕ → Entry → Bool
kept ids index s i (entry.Header h) = true
kept ids index s i (entry.Digest l) = true
kept ids index s i (entry.Safe version) = true
kept ids index s i (entry.Object o) = is_place (index o.key) s i
kept ids index s i (entry.Tombstone t) = has ids t.segment

-- the kept ones among these entries, of which the first is entry `i` of the segment
abbrev pub kept_from : List ℕ → Index → ℕ → ℕ → List Entry → List Entry
kept_from ids index s i [] = []
kept_from ids index s i (e ∷ es) =
    if kept ids index s i e then e ∷ kept_from ids index s (suc i) es else kept_from ids index s (suc i) es

-- ---- their places

-- how many of the first `n` of these entries are kept
abbrev pub kept_before : List ℕ → Index → ℕ → ℕ → List Entry → ℕ → ℕ
kept_before ids index s i [] n = 0
kept_before ids index s i (e ∷ es) zero = 0
kept_before ids index s i (e ∷ es) (suc n) =
    if kept ids index s i e then suc (kept_before ids index s (suc i) es n) else kept_before ids index s (suc i) es n

-- the place of an entry after compaction of segment `s`, which has these entries; `Some p` is its place before
abbrev pub moved_place : List ℕ → Index → ℕ → List Entry → Option Place → Option Place
moved_place ids index s es None = None
moved_place ids index s es (Some p) =
    if p.segment == s then Some (record { segment = s; position = kept_before ids index s 0 es p.position })
    else Some p

-- the index after compaction of segment `s`
abbrev pub moved_index : List ℕ → Images → Index → ℕ → Index
moved_index ids image index s = λ k. moved_place ids index s (image s) (index k)

-- ---- the places of a pass

-- the places of a segment's entries, in order
abbrev pub places_from : ℕ → ℕ → List Entry → List Place
places_from s i [] = []
places_from s i (e ∷ es) = record { segment = s; position = i } ∷ places_from s (suc i) es

-- the places of some segments, in order
abbrev pub places : List ℕ → Images → List Place
places [] image = []
places (s ∷ ids) image = places_from s 0 (image s) ++ places ids image
