-- Pieces of a text.
use Rattle.std.specs.Prelude.{ℕ, ◌-◌, List, take, drop}

-- the bytes between two offsets
abbrev pub piece : ℕ → ℕ → List ℕ → List ℕ
piece from to text = take (to - from) (drop from text)
