-- A pass, what its survivors begin with, and the digest of its commit.
use Rattle.std.specs.Prelude.{◌≡◌, ℕ, ◌⊎◌, List, [], ◌∷◌, ◌++◌, Option, Some}
use Rattle.entry.specs.declared.entry.Entry.{Entry}
use Rattle.entry.specs.declared.entry.Entry.TheVariants as entry
use Rattle.entry.specs.declared.entry.Role.TheVariants as role
use Rattle.entry.specs.Bag.{IsAmong}
use Rattle.log_laws.specs.Heads.{Start, ids_of}
use Rattle.log_laws.specs.Memory.{Pass}

-- ---- a pass

-- what a survivor begins with: its header
abbrev pub survivor_entries : ℕ → ℕ → List Entry
survivor_entries master s = entry.Header (record { master = master; segment = s; role = role.Survivor }) ∷ []

-- the entries begin with a survivor's header of this master and segment
abbrev pub BeginAsSurvivor : ℕ → ℕ → List Entry → Type 0
BeginAsSurvivor master s es = (more : List Entry) × (es ≡ survivor_entries master s ++ more)

-- Which segments a pass has. Its victims are segments that the digest in force lists before the head. It has survivors
-- only if it has victims. No survivor is in the digest in force, and none is the head that a roll is opening.
pub record IsPassOf (in_force : Start) (new : Option Start) (pass : Pass) : Type 0 where
  pub victims : (s : ℕ) → IsAmong s pass.victims → IsAmong s in_force.others
  pub some : (s : ℕ) → IsAmong s pass.survivors → pass.victims ≡ [] → ⊥
  pub outside : (s : ℕ) → IsAmong s pass.survivors → IsAmong s (ids_of in_force) → ⊥
  pub not_new : (s : ℕ) (n : Start) → IsAmong s pass.survivors → new ≡ Some n → n.id ≡ s → ⊥

-- ---- its commit

-- the digest in force has the segment, and the segment is no victim
abbrev pub Stays : Start → Pass → ℕ → Type 0
Stays in_force pass s = IsAmong s (ids_of in_force) × (IsAmong s pass.victims → ⊥)

-- A new head commits the pass: its digest has the segments in force, the victims left out and the survivors put in.
pub record IsCommit (in_force : Start) (pass : Pass) (n : Start) : Type 0 where
  pub from : (s : ℕ) → IsAmong s n.others → Stays in_force pass s ⊎ IsAmong s pass.survivors
  pub stays : (s : ℕ) → IsAmong s (ids_of in_force) → (IsAmong s pass.victims → ⊥) → IsAmong s n.others
  pub survivors : (s : ℕ) → IsAmong s pass.survivors → IsAmong s n.others
