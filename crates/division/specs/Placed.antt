-- Entries that are known by their places: their offsets in a segment's text.
use Rattle.std.specs.Prelude.{◌≡◌, ℕ, List, map, true, is_some}
use Rattle.std.specs.Option.{option_map_or}
use Rattle.std.specs.List.{AllByRecursion}
use Rattle.entry.specs.declared.entry.Entry.{Entry}
use Rattle.entry.specs.declared.entry.Entry.TheVariants as entry
use Rattle.segment.specs.Bytes.{standing_at}

-- the entry at a place of the text; a safe version of 0, which no entry has, if none stands there
abbrev pub entry_standing : List ℕ → ℕ → Entry
entry_standing text at = option_map_or (λ (e : Entry). e) (standing_at at text) (entry.Safe 0)

-- the entries at these places
abbrev pub entries_at : List ℕ → List ℕ → List Entry
entries_at text places = map (entry_standing text) places

-- an entry stands at the place
abbrev pub Stands : List ℕ → ℕ → Type 0
Stands text at = is_some (standing_at at text) ≡ true

-- an entry stands at each of the places
abbrev pub AllStand : List ℕ → List ℕ → Type 0
AllStand text places = AllByRecursion (Stands text) places
