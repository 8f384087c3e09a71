-- Which records are durable, by the takes that answered Ok, over the units of all heads of a history.
use Rattle.std.specs.Prelude.{◌≡◌, ℕ, ◌<◌, ◌≤◌, ◌⊎◌, List, [], ◌∷◌, ◌++◌, length, Some, slice_get, nat_lt}
use Rattle.std.specs.List.{flat_map}
use Rattle.entry.specs.Bag.{IsAmong}
use Rattle.versioned_map.specs.History.{commands_of}
use Rattle.versioned_map.specs.Versioned.{State}
use Rattle.log_laws.specs.Heads.{Start, LogUnit}
use Rattle.log_laws.specs.Numbered.{AreNumbered}
use Rattle.log_laws.specs.Shown.{Shown}
use Rattle.log_laws.specs.Data.{Head, Calm, Repairs, FailConfig, FailData, new_of}
use Rattle.log_laws.specs.Left.{how_many}
use Rattle.log_laws.specs.Steps.{fresh, IsLoaded, adopted}

-- A head, the backups that took its Open, and how many units each of them took, by takes that answered Ok.
pub record TakenHead : Type 0 where
  pub head : Head
  pub took : List ℕ
  pub counts : ℕ → ℕ

-- the head in force
abbrev pub head_now : FailData → TakenHead
head_now d = record { head = d.head; took = d.took d.head.start.id; counts = d.counts }

-- the earlier heads, and then the head in force
abbrev pub heads_of : List TakenHead → FailData → List TakenHead
heads_of past d = past ++ head_now d ∷ []

-- the units of heads, in order
abbrev pub units_in : List TakenHead → List LogUnit
units_in hs = flat_map (λ (h : TakenHead). h.head.units) hs

-- how many backups took the unit at this place whole
abbrev pub takers : TakenHead → ℕ → ℕ
takers h place = how_many (λ (b : ℕ). nat_lt place (h.counts b)) h.took

-- as many backups as a segment has replicas took each unit of the first `count` records
abbrev pub AreTaken : FailData → List TakenHead → ℕ → Type 0
AreTaken d past count = (h : TakenHead) (place : ℕ) (u : LogUnit) → IsAmong h (heads_of past d)
    → slice_get h.head.units place ≡ Some u → u.number < count → d.config.replicas ≤ takers h place

-- The durable count is the greatest count of first records such that as many backups as a segment has replicas took
-- each of their units whole.
pub record IsDurable (d : FailData) (past : List TakenHead) (count : ℕ) : Type 0 where
  pub units : AreNumbered d.opening 0 (commands_of d.history) (units_in (heads_of past d))
  pub within : count ≤ length d.history
  pub taken : AreTaken d past count
  pub greatest : (more : ℕ) → more ≤ length d.history → AreTaken d past more → more ≤ count

-- The earlier heads and the head in force have the units of the history, in order. As many backups as a segment has
-- replicas took each unit of an earlier head, and also each unit of the head in force once a backup opened a new head.
pub record IsPast (d : FailData) (past : List TakenHead) : Type 0 where
  pub units : AreNumbered d.opening 0 (commands_of d.history) (units_in (heads_of past d))
  pub whole : (h : TakenHead) (place : ℕ) (u : LogUnit) → IsAmong h past → slice_get h.head.units place ≡ Some u
      → d.config.replicas ≤ takers h place
  pub bare : d.head.start.id ≡ 0 → d.head.units ≡ []
  pub calm : (d.mode ≡ Calm) ⊎ (d.mode ≡ Repairs) → d.head.start.id ≡ 0 → ⊥
  pub pushed : (n : Start) → new_of d.mode ≡ Some n → 0 < length (d.took n.id) → (place : ℕ)
      → place < length d.head.units → d.config.replicas ≤ takers (head_now d) place

-- ---- laws

-- A new master has no earlier heads.
abbrev pub FreshIsPast : Type 0
FreshIsPast = (c : FailConfig) → IsPast (fresh c) []

-- A master that took over a recovered map has no earlier heads either.
abbrev pub AdoptedIsPast : Type 0
AdoptedIsPast = (d : FailData) (p : Shown) (st : State) → IsLoaded d p st → IsPast (adopted d st) []
