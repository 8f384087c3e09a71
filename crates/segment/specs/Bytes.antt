-- What the bytes of a segment are, and which entry is at an offset.
use Rattle.std.specs.Prelude.{◌≡◌, ℕ, ◌≤◌, List, length, drop, Option, true}
use Rattle.std.specs.List.{AllByRecursion}
use Rattle.std.specs.Option.{option_map}
use Rattle.entry.specs.declared.entry.Entry.{Entry}
use Rattle.entry.specs.Format.{front_of, IsEntry}
use Rattle.entry.specs.Text.{text_of, are_data, IsTextOf, entries_in}

-- the bytes are the text of a segment, and there are at most 8,388,608 of them
pub record IsSegmentBytes (bytes : List ℕ) : Type 0 where
  pub text : IsTextOf bytes (entries_in bytes)
  pub limit : length bytes ≤ 8388608

-- the bytes are the text of objects and tombstones, and of nothing else
pub record IsDataText (bytes : List ℕ) : Type 0 where
  pub each : AllByRecursion IsEntry (entries_in bytes)
  pub order : are_data (entries_in bytes) ≡ true
  pub text : bytes ≡ text_of (entries_in bytes)

-- the entry that can be read at this offset, if any
abbrev pub standing_at : ℕ → List ℕ → Option Entry
standing_at at bytes = option_map (λ (front : Entry × ℕ). front.0) (front_of (drop at bytes))
