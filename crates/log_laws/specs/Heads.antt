-- A head of a log, its units and its digest.
use Rattle.std.specs.Prelude.{ℕ, zero, suc, ◌+◌, ◌*◌, List, [], ◌∷◌, ◌++◌, length, take, Option, Some, None, map, min}
use Rattle.std.specs.Prelude.{unwrap_or, ◌==◌, if◌then◌else◌}
use Rattle.std.specs.List.{flat_map}
use Rattle.entry.specs.declared.digest.Listed.{Listed}
use Rattle.entry.specs.declared.digest.Digest.{Digest}
use Rattle.entry.specs.declared.digest.Digest.TheVariants as digest
use Rattle.entry.specs.declared.entry.Entry.{Entry}
use Rattle.entry.specs.declared.entry.Entry.TheVariants as entry
use Rattle.entry.specs.declared.entry.Role.TheVariants as role
use Rattle.entry.specs.Text.{lists_lengths, listed_len}

-- ---- data

-- What a head begins with: its id, the other ids of its digest, their lengths if the digest lists these, and the
-- recorded safe version.
pub record Start : Type 0 where
  pub id : ℕ
  pub others : List ℕ
  pub lens : Option (List ℕ)
  pub safe : ℕ

-- The unit of one record that appended something. `number` is the record's place in the history, from 0.
pub record LogUnit : Type 0 where
  pub number : ℕ
  pub entries : List Entry

-- The segment that is appended to.
pub record Head : Type 0 where
  pub start : Start
  -- the objects that were loaded before the history began
  pub loaded : List Entry
  pub units : List LogUnit
  -- how many units each replica has; only replicas that were opened are listed
  pub taken : List ℕ

-- What a roll has done so far. In `Ready` no roll is under way. In `Opened` so many replicas of the new head were
-- opened. In `Closed` all were opened, and so many replicas of the old head are closed.
pub data Phase : Type 0 where
  Ready : Phase
  Opened : ℕ → Start → Phase
  Closed : ℕ → Start → Phase

-- ---- words

-- the ids of a head's digest
abbrev pub ids_of : Start → List ℕ
ids_of n = n.others ++ n.id ∷ []

-- these ids, each with its length; an id without a length gets 0
abbrev pub listed_with : List ℕ → List ℕ → List Listed
listed_with [] ns = []
listed_with (s ∷ ids) [] = record { id = s; len = 0 } ∷ listed_with ids []
listed_with (s ∷ ids) (n ∷ ns) = record { id = s; len = n } ∷ listed_with ids ns

-- the length in bytes of an opening whose digest lists this many segments with their lengths
abbrev pub opening_len : ℕ → ℕ
opening_len count = 32 + 16 * count

-- a head as its own digest lists it: with the length of its opening
abbrev pub own_listed : List ℕ → ℕ → Listed
own_listed others id = record { id = id; len = opening_len (suc (length others)) }

-- the digest of a head with this id, which lists these other ids first, with these lengths if there are any
abbrev pub digest_with : List ℕ → Option (List ℕ) → ℕ → Digest
digest_with others None id = digest.Ids (others ++ id ∷ [])
digest_with others (Some ns) id = digest.Lengths (listed_with others ns ++ own_listed others id ∷ [])

-- the digest of a head
abbrev pub digest_for : Start → Digest
digest_for n = digest_with n.others n.lens n.id

-- the length that the next digest lists for a segment: for the old head the length `len` of its text, for another
-- segment the length that the old digest lists, or `len` if it lists none
abbrev pub len_next : Digest → ℕ → ℕ → ℕ → ℕ
len_next digest head len s = if s == head then len else unwrap_or (listed_len s digest) len

-- the lengths that the next digest lists for these segments, or None if the old digest lists no lengths
abbrev pub lens_next : Digest → (ℕ → ℕ) → List ℕ → Option (List ℕ)
lens_next digest len ids = if lists_lengths digest then Some (map len ids) else None

-- the opening of a head: its header, digest and safe version
abbrev pub start_entries : ℕ → Start → List Entry
start_entries master n = entry.Header (record {
  master = master;
  segment = n.id;
  role = role.Head;
}) ∷ entry.Digest (digest_for n) ∷ entry.Safe n.safe ∷ []

-- the entries of units, in order
abbrev pub entries_of : List LogUnit → List Entry
entries_of us = flat_map (λ (u : LogUnit). u.entries) us

-- the head's loaded entries and those of its first `count` units
abbrev pub front_entries : Head → ℕ → List Entry
front_entries h count = h.loaded ++ entries_of (take count h.units)

-- the head's opening, loaded entries, and the entries of its first `count` units
abbrev pub head_entries : ℕ → Head → ℕ → List Entry
head_entries master h count = start_entries master h.start ++ front_entries h count

-- the head that a roll is opening
abbrev pub new_of : Phase → Option Start
new_of Ready = None
new_of (Opened j n) = Some n
new_of (Closed j n) = Some n

-- ---- history

-- how many records come before the record of the unit at this place; all records, if no unit is at this place
abbrev pub records_before : List LogUnit → ℕ → ℕ → ℕ
records_before [] all place = all
records_before (u ∷ us) all zero = u.number
records_before (u ∷ us) all (suc place) = records_before us all place

-- the least of these numbers of units, or `units` if all of them are greater
abbrev pub fewest : ℕ → List ℕ → ℕ
fewest units [] = units
fewest units (n ∷ ns) = min n (fewest units ns)
