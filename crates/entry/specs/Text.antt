-- Texts of segments: the spellings of their entries one after the other, in an order that is allowed.
use Rattle.std.specs.Prelude.{◌≡◌, ℕ, zero, suc, List, [], ◌∷◌, ◌++◌, length, drop, filter, if◌then◌else◌}
use Rattle.std.specs.Prelude.{Bool, true, false, ◌==◌, ◌&&◌, Option, Some, None}
use Rattle.std.specs.Option.{option_map_or}
use Rattle.std.specs.List.{flat_map, AllByRecursion}
use Rattle.entry.specs.declared.entry.Role.{Role}
use Rattle.entry.specs.declared.entry.Role.TheVariants.{Head, Survivor}
use Rattle.entry.specs.declared.entry.Header.{Header}
use Rattle.entry.specs.declared.digest.Listed.{Listed}
use Rattle.entry.specs.declared.digest.Digest.{Digest}
use Rattle.entry.specs.declared.digest.Digest.TheVariants as digest
use Rattle.entry.specs.declared.entry.Entry.{Entry}
use Rattle.entry.specs.declared.entry.Entry.TheVariants as entry
use Rattle.entry.specs.Limits.{ids_in}
use Rattle.entry.specs.Format.{spelling, front_of, IsEntry}

-- ---- the entries of a segment

abbrev pub text_of : List Entry → List ℕ
text_of es = flat_map spelling es

-- the entry is an object or a tombstone
abbrev pub is_data : Entry → Bool
is_data (entry.Header h) = false
is_data (entry.Digest d) = false
is_data (entry.Safe version) = false
is_data (entry.Object o) = true
is_data (entry.Tombstone t) = true

abbrev pub are_data : List Entry → Bool
are_data [] = true
are_data (e ∷ es) = is_data e && are_data es

-- the ids of the segments that a digest lists
abbrev pub listed_ids : Digest → List ℕ
listed_ids (digest.Ids ids) = ids
listed_ids (digest.Lengths segments) = ids_in segments

-- the digest lists the lengths of its segments
abbrev pub lists_lengths : Digest → Bool
lists_lengths (digest.Ids ids) = false
lists_lengths (digest.Lengths segments) = true

-- the listed length of the segment with this id; None if the list doesn't have this id
abbrev pub len_in : ℕ → List Listed → Option ℕ
len_in id [] = None
len_in id (s ∷ ss) = if s.id == id then Some s.len else len_in id ss

-- the length that a digest lists for the segment with this id; None if it lists no lengths, or not this segment
abbrev pub listed_len : ℕ → Digest → Option ℕ
listed_len id (digest.Ids ids) = None
listed_len id (digest.Lengths segments) = len_in id segments

-- the last id of the list is this one
abbrev pub ends_with : ℕ → List ℕ → Bool
ends_with id [] = false
ends_with id (x ∷ []) = x == id
ends_with id (x ∷ y ∷ ys) = ends_with id (y ∷ ys)

-- What follows the header of a head: a digest whose last id is the head's own, a safe version, and then objects and
-- tombstones.
abbrev pub is_head_rest : ℕ → List Entry → Bool
is_head_rest segment (entry.Digest d ∷ entry.Safe version ∷ rest) = ends_with segment (listed_ids d) && are_data rest
is_head_rest segment _ = false

-- What follows the header of a segment of this role. The header of a survivor is followed by objects and tombstones.
abbrev pub is_rest : Role → ℕ → List Entry → Bool
is_rest Head segment rest = is_head_rest segment rest
is_rest Survivor segment rest = are_data rest

-- the entries are those of a whole segment, in an order that is allowed
abbrev pub is_whole : List Entry → Bool
is_whole (entry.Header h ∷ rest) = is_rest h.role h.segment rest
is_whole _ = false

-- some whole segment begins with these entries
abbrev pub IsBeginning : List Entry → Type 0
IsBeginning es = (more : List Entry) × (is_whole (es ++ more) ≡ true)

-- the entries are those of a whole segment, and each field of them is within its limits
pub record IsSegment (es : List Entry) : Type 0 where
  pub each : AllByRecursion IsEntry es
  pub order : is_whole es ≡ true

-- the bytes are the text of these entries, which are those of a whole segment
pub record IsTextOf (bytes : List ℕ) (es : List Entry) : Type 0 where
  pub segment : IsSegment es
  pub text : bytes ≡ text_of es

-- ---- the entries of a text

-- the entries that are read from the bytes one after the other, at most this many, until no entry is at the front
abbrev pub entries_within : ℕ → List ℕ → List Entry
entries_within zero bytes = []
entries_within (suc count) bytes =
    option_map_or (λ (front : Entry × ℕ). front.0 ∷ entries_within count (drop front.1 bytes)) (front_of bytes) []

-- the entries that are read from the bytes one after the other, until no entry is at the front
abbrev pub entries_in : List ℕ → List Entry
entries_in bytes = entries_within (length bytes) bytes

-- the objects and tombstones among the entries in the bytes
abbrev pub data_in : List ℕ → List Entry
data_in bytes = filter is_data (entries_in bytes)

-- the digest of a head, and the safe version that follows it
pub record Opening : Type 0 where
  pub digest : Digest
  pub safe : ℕ

abbrev pub opening_of : List Entry → Option Opening
opening_of (entry.Header h ∷ entry.Digest d ∷ entry.Safe version ∷ rest) = Some (record { digest = d; safe = version })
opening_of _ = None

-- the opening of the head in the bytes; None if they don't begin with a header, a digest and a safe version
abbrev pub opening_in : List ℕ → Option Opening
opening_in bytes = opening_of (entries_in bytes)

abbrev pub header_of : List Entry → Option Header
header_of (entry.Header h ∷ rest) = Some h
header_of _ = None

-- the header at the front of the bytes; None if no header is there
abbrev pub header_in : List ℕ → Option Header
header_in bytes = header_of (entries_in bytes)

-- the bytes are the text of some segment
abbrev pub IsSegmentText : List ℕ → Type 0
IsSegmentText bytes = (es : List Entry) × IsTextOf bytes es

-- ---- laws

-- A text that was made from entries is read as exactly these entries.
abbrev pub TextsAreRead : Type 0
TextsAreRead = (es : List Entry) → AllByRecursion IsEntry es → entries_in (text_of es) ≡ es
