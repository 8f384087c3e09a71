-- The texts of segments, and ids and units that rise.
use Rattle.std.specs.Prelude.{◌≡◌, ℕ, suc, ◌<◌, ◌≤◌, List, [], ◌∷◌, length, filter, Some, slice_get}
use Rattle.std.specs.List.{flat_map, AllByRecursion}
use Rattle.entry.specs.declared.entry.Entry.{Entry}
use Rattle.entry.specs.Text.{is_data}
use Rattle.log_laws.specs.Heads.{Start, LogUnit, Head}

-- ---- texts

-- the text of each segment as it was replicated
abbrev pub Texts : Type 0
Texts = ℕ → List Entry

-- all objects and tombstones of these segments
abbrev pub base_of : Texts → List ℕ → List Entry
base_of texts ids = flat_map (λ (s : ℕ). filter is_data (texts s)) ids

-- ---- the heads

-- the other ids of a head's digest are below the head's own id
abbrev pub AreBelow : Start → Type 0
AreBelow n = AllByRecursion (λ (s : ℕ). s < n.id) n.others

-- All replicas of the head were opened, and each has all units.
pub record IsWhole (replicas : ℕ) (h : Head) : Type 0 where
  pub opened : length h.taken ≡ replicas
  pub all : (j count : ℕ) → slice_get h.taken j ≡ Some count → count ≡ length h.units

-- ---- units

-- The record of each unit comes later than that of the unit before it. The first unit's record has the number `from`
-- or a greater one, and the last unit's has a number below `all`.
abbrev pub Rise : ℕ → List LogUnit → ℕ → Type 0
Rise from [] all = from ≤ all
Rise from (u ∷ us) all = (from ≤ u.number) × Rise (suc u.number) us all
