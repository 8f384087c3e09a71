-- The first text of a backup's journal: whose it is.
use Rattle.std.specs.Prelude.{◌≡◌, ℕ, List, [], ◌∷◌, ◌++◌}
use Rattle.entry.specs.Format.{number_bytes}
use Rattle.take_journal.specs.Frames.{frame}

-- the version, a byte that says the file is a journal, the store's id, the backup, and the file's id
abbrev pub first_text : ℕ → ℕ → ℕ → List ℕ
first_text store backup id = 1 ∷ 66 ∷ number_bytes 8 store ++ number_bytes 8 backup ++ number_bytes 8 id

-- the file begins with this text, whole
abbrev pub BeginsWith : List ℕ → List ℕ → Type 0
BeginsWith text file = (rest : List ℕ) × (file ≡ frame text ++ rest)
