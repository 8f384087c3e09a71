-- The least heads that a fleet in memory keeps.
use Rattle.std.specs.Prelude.{ℕ, List, Option, Some, None}
use Rattle.std.specs.Ordering.{nat_cmp}
use Rattle.std.specs.BTreeMap.{is_at}
use Rattle.std.specs.Map.{lookup}

-- masters that were raised, each with its least head
abbrev pub Heads : Type 0
Heads = List (ℕ × ℕ)

-- the head that was found, or 0
abbrev pub head_or_0 : Option ℕ → ℕ
head_or_0 None = 0
head_or_0 (Some id) = id

-- the least head of a master: 0 if it was never raised
abbrev pub least_in : Heads → ℕ → ℕ
least_in heads = λ master. head_or_0 (lookup (is_at (nat_cmp master)) heads)
