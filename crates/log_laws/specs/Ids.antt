-- Lists of rising ids.
use Rattle.std.specs.Prelude.{ℕ, List, [], ◌∷◌, Bool, false, ◌==◌, ◌||◌, nat_lt, if◌then◌else◌}

-- true if the id is in the list
abbrev pub has : List ℕ → ℕ → Bool
has [] s = false
has (z ∷ ids) s = (z == s) || has ids s

-- the rising ids with one more id, put where the list still rises
abbrev pub inserted : ℕ → List ℕ → List ℕ
inserted s [] = s ∷ []
inserted s (z ∷ ids) = if nat_lt s z then s ∷ z ∷ ids else z ∷ inserted s ids

-- the rising ids with several more ids, each put where the list still rises
abbrev pub all_inserted : List ℕ → List ℕ → List ℕ
all_inserted [] ids = ids
all_inserted (s ∷ more) ids = inserted s (all_inserted more ids)

-- the ids that aren't among the victims
abbrev pub without : List ℕ → List ℕ → List ℕ
without victims [] = []
without victims (s ∷ ids) = if has victims s then without victims ids else s ∷ without victims ids
