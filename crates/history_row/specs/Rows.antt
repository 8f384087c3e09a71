-- What the cells of a row are called, and what is known of them.
use Rattle.std.specs.Prelude.{◌≡◌, ℕ, Option, Some, None, List, [], ◌∷◌, map}
use Rattle.std.specs.Option.{option_map}
use Rattle.versioned_map.specs.declared.command.Record.{Record}
use Rattle.history_row.specs.declared.kept.Kept.{Kept}
use Rattle.history_row.specs.declared.slot.Slot.{Slot}

abbrev pub names : List Slot → List ℕ
names = map (λ s. s.note.cell)

-- the record that a cell is known to have
abbrev pub known_of : Option Kept → Option Record
known_of = option_map (λ (k : Kept). k.what)

-- the record that each cell of a row is known to have
abbrev pub row_of : List Slot → List (Option Record)
row_of = map (λ s. known_of s.note.known)

-- What a contract sees of cells that no type names.
pub record CellsValue : Type 0 where
  pub names : List ℕ
  pub row : List (Option Record)

-- the row begins with these records, and nothing is known of its other cells
abbrev pub IsRowOf : List (Option Record) → List Record → Type 0
IsRowOf [] [] = Unit {0}
IsRowOf [] (r ∷ rs) = ⊥
IsRowOf (c ∷ cs) [] = (c ≡ None) × IsRowOf cs []
IsRowOf (c ∷ cs) (r ∷ rs) = (c ≡ Some r) × IsRowOf cs rs
