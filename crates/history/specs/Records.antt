-- A history: rows, and the texts that have the bytes of their keys and values.
use Rattle.std.specs.Prelude.{◌≡◌, ℕ, ◌+◌, ◌<◌, ◌≤◌, ◌^◌, List, [], ◌∷◌, map, length, max, Option, None, nat_lt}
use Rattle.std.specs.Prelude.{if◌then◌else◌}
use Rattle.std.specs.Prelude.{slice_get}
use Rattle.std.specs.List.{AllByRecursion}
use Rattle.entry.specs.Key.{IsKeyBytes}
use Rattle.entry.specs.Limits.{IsValue}
use Rattle.versioned_map.specs.declared.command.Record.{Record}
use Rattle.history.specs.declared.packing.Row.{Row}
use Rattle.history.specs.Packing.{unpacked, front_len, key_of, value_of}
use Rattle.history.specs.Texts.{TextsValue, steps_to, part, IsWithin}

-- the records; the room, which is how many bytes the key and the value of the next record may have, which are reserved;
-- and how many of the first records are forgotten
pub record HistoryValue : Type 0 where
  pub records : List Record
  pub room : ℕ
  pub forgotten : ℕ

-- the record at a place, unless it was forgotten
abbrev pub kept_at : HistoryValue → ℕ → Option Record
kept_at h place = if nat_lt place h.forgotten then None else slice_get h.records place

-- Of the first n records some are forgotten, and no others. At most 1,024 of them are left, if there are n records.
pub record Forgets (n : ℕ) (old new : HistoryValue) : Type 0 where
  pub records : new.records ≡ old.records
  pub room : new.room ≡ old.room
  pub least : old.forgotten ≤ new.forgotten
  pub most : new.forgotten ≤ max old.forgotten n
  pub near : n ≤ length old.records → n ≤ 2 ^ 62 → n ≤ new.forgotten + 1024
  pub within : new.forgotten ≤ length new.records
  pub places : new.forgotten < 2 ^ 62 + 1024

-- how many bytes the record's key and its value have together
abbrev pub len_of : Record → ℕ
len_of r = length (key_of r) + length (value_of r)

-- ---- how records are packed

-- the bytes of the numbers of the row's record; none if the row has room for the numbers
abbrev pub front_at : TextsValue → Row → List ℕ
front_at t r = part t r.block r.start (front_len r)

-- the key of the row's record, which lies behind the numbers
abbrev pub key_at : TextsValue → Row → List ℕ
key_at t r = part t r.block (r.start + front_len r) r.key_len

-- the value of the row's record, which lies behind the key
abbrev pub value_at : TextsValue → Row → List ℕ
value_at t r = part t r.block (r.start + front_len r + r.key_len) r.value_len

abbrev pub record_in : TextsValue → Row → Record
record_in t r = unpacked r (front_at t r) (key_at t r) (value_at t r)

abbrev pub records_in : TextsValue → List Row → List Record
records_in t rows = map (λ (r : Row). record_in t r) rows

-- the texts have the row's bytes, and in them a key and a value within their limits
pub record IsRow (t : TextsValue) (r : Row) : Type 0 where
  pub within : IsWithin t r.block r.start (front_len r + r.key_len + r.value_len)
  pub key : IsKeyBytes (key_at t r)
  pub value : IsValue (value_at t r)

abbrev pub AreRows : TextsValue → List Row → Type 0
AreRows t rows = AllByRecursion (λ (r : Row). IsRow t r) rows

-- ---- the order of their texts

-- each row has its bytes in block `least` or a later one, counted from block `base`
abbrev pub AreFrom : ℕ → ℕ → List Row → Type 0
AreFrom base least rows = AllByRecursion (λ (r : Row). least ≤ steps_to base r.block) rows

-- no row has its bytes in an earlier block than a row before it
abbrev pub Ascend : ℕ → List Row → Type 0
Ascend base [] = Unit {0}
Ascend base (r ∷ rs) = AreFrom base (steps_to base r.block) rs × Ascend base rs
