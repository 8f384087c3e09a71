-- The texts of a registry: the first names the store, and each other one is a record.
use Rattle.std.specs.Prelude.{◌≡◌, ℕ, ◌+◌, ◌*◌, ◌<◌, ◌^◌, List, [], ◌∷◌, ◌++◌, length, Option, Some, None}
use Rattle.std.specs.Prelude.{Bool, nat_le, slice_index, ◌==◌, ◌&&◌, if◌then◌else◌}
use Rattle.std.specs.List.{flat_map}
use Rattle.entry.specs.Format.{ids_at, number_at, number_bytes}
use Rattle.entry.specs.Key.{IsBytes}
use Rattle.take_journal.specs.Frames.{IsShort}
use Rattle.registry_text.specs.declared.record.Fleet.{Fleet}
use Rattle.registry_text.specs.declared.record.Record.{Record}
use Rattle.registry_text.specs.declared.record.Record.TheVariants as says

-- ---- the store

-- which store it is: a number of its own, and its options
pub record FleetValue : Type 0 where
  pub id : ℕ
  pub options : List ℕ

-- what a store in memory is
abbrev pub shown_fleet : Fleet → FleetValue
shown_fleet f = record { id = f.id; options = f.options.items }

-- the version, a byte that says the file is a registry, the id, how many options there are, and the options
abbrev pub fleet_text : FleetValue → List ℕ
fleet_text f =
    1 ∷ 82 ∷ number_bytes 8 f.id ++ number_bytes 2 (length f.options) ++ flat_map (number_bytes 8) f.options

-- these bytes are an id, a count, and so many options
abbrev pub is_fleet : List ℕ → Bool
is_fleet rest = nat_le 10 (length rest) && (length rest == 10 + 8 * number_at 2 8 rest)

abbrev pub fleet_of : List ℕ → FleetValue
fleet_of rest = record { id = number_at 8 0 rest; options = ids_at (number_at 2 8 rest) 10 rest }

abbrev pub fleet_behind : ℕ → ℕ → List ℕ → Option FleetValue
fleet_behind version kind rest =
    if (version == 1) && ((kind == 82) && is_fleet rest) then Some (fleet_of rest) else None

-- the store that a first text names; None if it names none
abbrev pub fleet_in : List ℕ → Option FleetValue
fleet_in [] = None
fleet_in (version ∷ []) = None
fleet_in (version ∷ kind ∷ rest) = fleet_behind version kind rest

-- ---- records

abbrev pub record_text : Record → List ℕ
record_text (says.Journal backup id count) =
    2 ∷ number_bytes 8 backup ++ number_bytes 8 id ++ number_bytes 8 count
record_text (says.Raise master head) = 3 ∷ number_bytes 8 master ++ number_bytes 8 head
record_text (says.Master number) = 4 ∷ number_bytes 8 number
record_text (says.Format number) = 5 ∷ number_bytes 8 number

-- the record of a kind, and of what stands behind it
abbrev pub record_behind : ℕ → List ℕ → Option Record
record_behind kind rest =
    if kind == 2 then (if length rest == 24
    then Some (says.Journal (number_at 8 0 rest) (number_at 8 8 rest) (number_at 8 16 rest)) else None)
    else (if kind == 3 then (if length rest == 16
    then Some (says.Raise (number_at 8 0 rest) (number_at 8 8 rest)) else None)
    else (if kind == 4 then (if length rest == 8 then Some (says.Master (number_at 8 0 rest)) else None)
    else (if kind == 5 then (if length rest == 8 then Some (says.Format (number_at 8 0 rest)) else None)
    else None)))

-- the record of a text; None if it is no record's
abbrev pub record_in : List ℕ → Option Record
record_in [] = None
record_in (kind ∷ rest) = record_behind kind rest

-- ---- laws

-- The numbers have 64 bits, and there are less than 2^16 options.
pub record FitsFleet (f : FleetValue) : Type 0 where
  pub id : f.id < 2 ^ 64
  pub count : length f.options < 2 ^ 16
  pub options : (i : ℕ) → slice_index f.options i < 2 ^ 64

-- The numbers of the record have 64 bits.
abbrev pub FitsRecord : Record → Type 0
FitsRecord (says.Journal backup id count) = (backup < 2 ^ 64) × (id < 2 ^ 64) × (count < 2 ^ 64)
FitsRecord (says.Raise master head) = (master < 2 ^ 64) × (head < 2 ^ 64)
FitsRecord (says.Master number) = number < 2 ^ 64
FitsRecord (says.Format number) = number < 2 ^ 64

-- A store is read back from its text, and so is a record.
pub record AreReadBack : Type 0 where
  pub fleets : (f : FleetValue) → FitsFleet f → fleet_in (fleet_text f) ≡ Some f
  pub records : (r : Record) → FitsRecord r → record_in (record_text r) ≡ Some r

-- Bytes that are read as a store are its text, and bytes that are read as a record are the record's text.
pub record HaveOneText : Type 0 where
  pub fleets : (text : List ℕ) (f : FleetValue) → IsBytes text → fleet_in text ≡ Some f
      → (text ≡ fleet_text f) × FitsFleet f
  pub records : (text : List ℕ) (r : Record) → IsBytes text → record_in text ≡ Some r
      → (text ≡ record_text r) × FitsRecord r

-- The texts fit a frame.
pub record AreShortTexts : Type 0 where
  pub fleets : (f : FleetValue) → FitsFleet f → IsShort (fleet_text f)
  pub records : (r : Record) → IsShort (record_text r)
