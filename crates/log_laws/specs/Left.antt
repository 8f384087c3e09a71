-- How many numbers of a list pass a test.
use Rattle.std.specs.Prelude.{ℕ, suc, List, [], ◌∷◌, Bool}
use Rattle.std.specs.Prelude.{if◌then◌else◌}

-- ---- counts

-- how many of these numbers, such as backups, pass the test
abbrev pub how_many : (ℕ → Bool) → List ℕ → ℕ
how_many test [] = 0
how_many test (b ∷ bs) = if test b then suc (how_many test bs) else how_many test bs
