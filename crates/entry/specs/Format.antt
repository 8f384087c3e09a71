-- The format of entries: the bytes of each entry (its spelling), and the tests of a reader in their order.
use Rattle.std.specs.Prelude.{◌≡◌, ℕ, zero, suc, ◌+◌, ◌*◌, ◌<◌, ◌≤◌, ◌^◌, List, [], ◌∷◌, ◌++◌, length}
use Rattle.std.specs.Prelude.{take, drop, slice_index, Option, Some, None, is_none, IsSomeAnd, Bool}
use Rattle.std.specs.Prelude.{true, false, not, ◌==◌, ◌&&◌, nat_lt, nat_le, if◌then◌else◌}
use Rattle.std.specs.List.{flat_map}
use Rattle.std.specs.Int.{bytes_high_first}
use Rattle.byteorder.specs.Endian.{big_number}
use Rattle.entry.specs.declared.entry.Role.{Role}
use Rattle.entry.specs.declared.entry.Role.TheVariants.{Head, Survivor}
use Rattle.entry.specs.declared.entry.Header.{Header}
use Rattle.entry.specs.declared.entry.Object.{Object}
use Rattle.entry.specs.declared.entry.Tombstone.{Tombstone}
use Rattle.entry.specs.declared.key.Key.{Key}
use Rattle.entry.specs.declared.digest.Listed.{Listed}
use Rattle.entry.specs.declared.digest.Digest.{Digest}
use Rattle.entry.specs.declared.digest.Digest.TheVariants as digest
use Rattle.entry.specs.declared.entry.Entry.{Entry}
use Rattle.entry.specs.declared.entry.Entry.TheVariants as entry
use Rattle.entry.specs.declared.kind.Kind.{Kind}
use Rattle.entry.specs.declared.kind.Kind.TheVariants as kind
use Rattle.entry.specs.declared.fault.EntryFault.{EntryFault}
use Rattle.entry.specs.declared.fault.EntryFault.TheVariants.{Short, UnknownKind, BadField, NoMemory}
use Rattle.entry.specs.Key.{IsKeyBytes}
use Rattle.entry.specs.Limits.{IsVersion, IsSafeVersion, IsValue, AreIds, AreLengths}

-- ---- numbers

-- a number in this many bytes, the highest byte first
unfoldable pub number_bytes : ℕ → ℕ → List ℕ
number_bytes count n = bytes_high_first count n

-- the number in this many bytes from an offset on, the highest byte first
unfoldable pub number_at : ℕ → ℕ → List ℕ → ℕ
number_at count at bytes = big_number count (drop at bytes)

-- ---- spelling

abbrev pub role_byte : Role → ℕ
role_byte Head = 0
role_byte Survivor = 1

-- the bytes of a listed segment: its id and its length
abbrev pub listed_bytes : Listed → List ℕ
listed_bytes s = number_bytes 8 s.id ++ number_bytes 8 s.len

abbrev pub digest_spelling : Digest → List ℕ
digest_spelling (digest.Ids ids) = 2 ∷ number_bytes 4 (length ids) ++ flat_map (number_bytes 8) ids
digest_spelling (digest.Lengths segments) = 6 ∷ number_bytes 4 (length segments) ++ flat_map listed_bytes segments

abbrev pub spelling : Entry → List ℕ
spelling (entry.Header h) = 1 ∷ number_bytes 8 h.master ++ number_bytes 8 h.segment ++ role_byte h.role ∷ []
spelling (entry.Digest d) = digest_spelling d
spelling (entry.Safe version) = 3 ∷ number_bytes 8 version
spelling (entry.Object o) =
    4 ∷ number_bytes 8 o.key.table ++ number_bytes 8 o.version ++ number_bytes 2 (length o.key.bytes)
    ++ number_bytes 4 (length o.value) ++ o.key.bytes ++ o.value
spelling (entry.Tombstone t) =
    5 ∷ number_bytes 8 t.key.table ++ number_bytes 8 t.version ++ number_bytes 8 t.segment
    ++ number_bytes 2 (length t.key.bytes) ++ t.key.bytes

-- ---- the limits of entries

pub record IsHeader (h : Header) : Type 0 where
  pub master : h.master < 2 ^ 64
  pub segment : h.segment < 2 ^ 64

pub record IsKey (k : Key) : Type 0 where
  pub table : k.table < 2 ^ 64
  pub bytes : IsKeyBytes k.bytes

pub record IsObject (o : Object) : Type 0 where
  pub key : IsKey o.key
  pub version : IsVersion o.version
  pub value : IsValue o.value

pub record IsTombstone (t : Tombstone) : Type 0 where
  pub key : IsKey t.key
  pub version : IsVersion t.version
  pub segment : t.segment < 2 ^ 64

abbrev pub IsDigest : Digest → Type 0
IsDigest (digest.Ids ids) = AreIds ids
IsDigest (digest.Lengths segments) = AreLengths segments

-- The fields of the entry are within their limits. Each value of the type Entry of the code is such an entry.
abbrev pub IsEntry : Entry → Type 0
IsEntry (entry.Header h) = IsHeader h
IsEntry (entry.Digest d) = IsDigest d
IsEntry (entry.Safe version) = IsSafeVersion version
IsEntry (entry.Object o) = IsObject o
IsEntry (entry.Tombstone t) = IsTombstone t

-- ---- the tests of a reader

abbrev pub kind_of : ℕ → Option Kind
kind_of byte =
    if byte == 1 then Some kind.Header
    else if byte == 2 then Some kind.Digest
    else if byte == 3 then Some kind.Safe
    else if byte == 4 then Some kind.Object
    else if byte == 5 then Some kind.Tombstone
    else if byte == 6 then Some kind.Lengths
    else None

abbrev pub kind_byte : Kind → ℕ
kind_byte kind.Header = 1
kind_byte kind.Digest = 2
kind_byte kind.Safe = 3
kind_byte kind.Object = 4
kind_byte kind.Tombstone = 5
kind_byte kind.Lengths = 6

-- how many bytes the fixed part of an entry of this kind has
abbrev pub fixed_len : Kind → ℕ
fixed_len kind.Header = 18
fixed_len kind.Digest = 5
fixed_len kind.Safe = 9
fixed_len kind.Object = 23
fixed_len kind.Tombstone = 27
fixed_len kind.Lengths = 5

-- how many bytes the whole entry has, by the lengths and counts in its fixed part
abbrev pub whole_len : Kind → List ℕ → ℕ
whole_len kind.Header bytes = 18
whole_len kind.Digest bytes = 5 + 8 * number_at 4 1 bytes
whole_len kind.Safe bytes = 9
whole_len kind.Object bytes = 23 + number_at 2 17 bytes + number_at 4 19 bytes
whole_len kind.Tombstone bytes = 27 + number_at 2 25 bytes
whole_len kind.Lengths bytes = 5 + 16 * number_at 4 1 bytes

-- the number is no less than the first limit and no more than the second
abbrev pub is_within : ℕ → ℕ → ℕ → Bool
is_within least greatest n = nat_le least n && nat_le n greatest

-- the fields of the fixed part are within their limits
abbrev pub are_fields : Kind → List ℕ → Bool
are_fields kind.Header bytes = nat_le (slice_index bytes 17) 1
are_fields kind.Digest bytes = true
are_fields kind.Safe bytes = is_within 1 (2 ^ 62 + 1) (number_at 8 1 bytes)
are_fields kind.Object bytes =
    is_within 1 (2 ^ 62) (number_at 8 9 bytes) && is_within 1 1024 (number_at 2 17 bytes)
    && nat_le (number_at 4 19 bytes) 2097152
are_fields kind.Tombstone bytes = is_within 1 (2 ^ 62) (number_at 8 9 bytes) && is_within 1 1024 (number_at 2 25 bytes)
are_fields kind.Lengths bytes = true

-- this many ids from an offset in the bytes on
abbrev pub ids_at : ℕ → ℕ → List ℕ → List ℕ
ids_at zero at bytes = []
ids_at (suc count) at bytes = number_at 8 at bytes ∷ ids_at count (at + 8) bytes

-- this many listed segments from an offset in the bytes on
abbrev pub listed_at : ℕ → ℕ → List ℕ → List Listed
listed_at zero at bytes = []
listed_at (suc count) at bytes =
    record { id = number_at 8 at bytes; len = number_at 8 (at + 8) bytes } ∷ listed_at count (at + 16) bytes

-- each number is above the one before it
abbrev pub rises : List ℕ → Bool
rises [] = true
rises (x ∷ []) = true
rises (x ∷ y ∷ ys) = nat_lt x y && rises (y ∷ ys)

-- each length is within its limits, and each id is above the one before it
abbrev pub are_listed : List Listed → Bool
are_listed [] = true
are_listed (s ∷ []) = is_within 18 8388608 s.len
are_listed (s ∷ t ∷ ss) = is_within 18 8388608 s.len && (nat_lt s.id t.id && are_listed (t ∷ ss))

-- the ids of a digest rise strictly, and its lengths are within their limits
abbrev pub has_order : Kind → List ℕ → Bool
has_order kind.Header bytes = true
has_order kind.Digest bytes = rises (ids_at (number_at 4 1 bytes) 5 bytes)
has_order kind.Safe bytes = true
has_order kind.Object bytes = true
has_order kind.Tombstone bytes = true
has_order kind.Lengths bytes = are_listed (listed_at (number_at 4 1 bytes) 5 bytes)

-- the fault of the first test that fails for an entry of this kind; None if no test fails
abbrev pub fault_in : Kind → List ℕ → Option EntryFault
fault_in k bytes =
    if nat_lt (length bytes) (fixed_len k) then Some Short
    else if not (are_fields k bytes) then Some BadField
    else if nat_lt (length bytes) (whole_len k bytes) then Some Short
    else if not (has_order k bytes) then Some BadField
    else None

abbrev pub fault_of_kind : Option Kind → List ℕ → Option EntryFault
fault_of_kind None bytes = Some UnknownKind
fault_of_kind (Some k) bytes = fault_in k bytes

-- the fault of the first test that fails; None if no test fails
abbrev pub first_fault : List ℕ → Option EntryFault
first_fault [] = Some Short
first_fault (byte ∷ fields) = fault_of_kind (kind_of byte) (byte ∷ fields)

-- ---- the entry at the front

-- the role that a byte stands for
abbrev pub role_of : ℕ → Role
role_of zero = Head
role_of (suc n) = Survivor

-- this many bytes from an offset on
abbrev pub part_of : ℕ → ℕ → List ℕ → List ℕ
part_of count at bytes = take count (drop at bytes)

-- the digest at the front of the bytes, which lists this many segments, and their lengths if the flag is true
abbrev pub digest_at : Bool → ℕ → List ℕ → Digest
digest_at false count bytes = digest.Ids (ids_at count 5 bytes)
digest_at true count bytes = digest.Lengths (listed_at count 5 bytes)

-- how many bytes a digest of this many segments has, which lists their lengths if the flag is true
abbrev pub digest_len : Bool → ℕ → ℕ
digest_len false count = 5 + 8 * count
digest_len true count = 5 + 16 * count

-- the entry of this kind whose fields are in the bytes
abbrev pub entry_of : Kind → List ℕ → Entry
entry_of kind.Header bytes = entry.Header (record {
  master = number_at 8 1 bytes;
  segment = number_at 8 9 bytes;
  role = role_of (slice_index bytes 17);
})
entry_of kind.Digest bytes = entry.Digest (digest.Ids (ids_at (number_at 4 1 bytes) 5 bytes))
entry_of kind.Safe bytes = entry.Safe (number_at 8 1 bytes)
entry_of kind.Object bytes = entry.Object (record {
  key = record { table = number_at 8 1 bytes; bytes = part_of (number_at 2 17 bytes) 23 bytes };
  version = number_at 8 9 bytes;
  value = part_of (number_at 4 19 bytes) (23 + number_at 2 17 bytes) bytes;
})
entry_of kind.Tombstone bytes = entry.Tombstone (record {
  key = record { table = number_at 8 1 bytes; bytes = part_of (number_at 2 25 bytes) 27 bytes };
  version = number_at 8 9 bytes;
  segment = number_at 8 17 bytes;
})
entry_of kind.Lengths bytes = entry.Digest (digest.Lengths (listed_at (number_at 4 1 bytes) 5 bytes))

abbrev pub front_of_kind : Option Kind → List ℕ → Option (Entry × ℕ)
front_of_kind None bytes = None
front_of_kind (Some k) bytes = if is_none (fault_in k bytes) then Some (entry_of k bytes, whole_len k bytes) else None

-- the entry at the front of the bytes, and how many bytes it takes; None if a test fails
abbrev pub front_of : List ℕ → Option (Entry × ℕ)
front_of [] = None
front_of (byte ∷ fields) = front_of_kind (kind_of byte) (byte ∷ fields)

-- ---- what a reader answers

-- the bytes begin with the spelling of this entry, which has this many bytes
pub record Begins (bytes : List ℕ) (e : Entry) (len : ℕ) : Type 0 where
  pub entry : IsEntry e
  pub within : len ≤ length bytes
  pub text : take len bytes ≡ spelling e

-- the entry has a list in it, for which a reader may allocate memory: a digest, an object or a tombstone
abbrev pub HoldsList : Entry → Type 0
HoldsList (entry.Header h) = ⊥
HoldsList (entry.Digest d) = Unit {0}
HoldsList (entry.Safe version) = ⊥
HoldsList (entry.Object o) = Unit {0}
HoldsList (entry.Tombstone t) = Unit {0}

-- What a reader may answer in place of an entry: the fault of the first test that fails. It answers NoMemory only if
-- no test fails and the entry has a list in it.
abbrev pub MayFail : List ℕ → EntryFault → Type 0
MayFail bytes Short = first_fault bytes ≡ Some Short
MayFail bytes UnknownKind = first_fault bytes ≡ Some UnknownKind
MayFail bytes BadField = first_fault bytes ≡ Some BadField
MayFail bytes NoMemory = IsSomeAnd (front_of bytes) (λ front. HoldsList front.0)

-- ---- a law

-- No entry's bytes begin with the bytes of another entry. So the same bytes can't begin with two different entries.
abbrev pub SpellingsArePrefixFree : Type 0
SpellingsArePrefixFree = (a b : Entry) (x y : List ℕ) → IsEntry a → IsEntry b → spelling a ++ x ≡ spelling b ++ y
    → (a ≡ b) × (x ≡ y)
