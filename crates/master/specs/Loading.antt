-- What a master does that is loading.
use Rattle.std.specs.Prelude.{◌≡◌, ◌⊎◌, ℕ, ◌+◌, ◌≤◌, Some, None}
use Rattle.entry.specs.declared.entry.Entry.{Entry}
use Rattle.entry.specs.declared.entry.Entry.TheVariants as entry
use Rattle.master_core.specs.master_state.declared.step.Refusal.{Refusal}
use Rattle.master_core.specs.master_state.declared.step.Refusal.TheVariants as refusal
use Rattle.master_core.specs.master_state.Data.{MasterData}
use Rattle.master_core.specs.master_state.Loading.{load_refusal, IsNewObject, Loads}
use Rattle.master.specs.World.{World}

-- the entry is an object of a key that was not loaded, with a version below the safe one
abbrev pub IsNewEntry : MasterData → Entry → Type 0
IsNewEntry d (entry.Object o) = IsNewObject d o
IsNewEntry d _ = ⊥

-- the entry is an object, and it is loaded
abbrev pub LoadsEntry : MasterData → Entry → MasterData → Type 0
LoadsEntry d (entry.Object o) e = Loads d o e
LoadsEntry d _ e = ⊥

-- An object is refused for the first test that fails, or else for lack of memory. Then nothing changes.
abbrev pub DeclinesLoad : MasterData → Entry → Refusal → MasterData → Type 0
DeclinesLoad d (entry.Object o) r e =
    (e ≡ d) × ((load_refusal d o ≡ Some r) ⊎ ((load_refusal d o ≡ None) × (r ≡ refusal.NoMemory)))
DeclinesLoad d _ r e = ⊥

-- What a push and the begin of a roll keep, whatever they answer.
pub record KeepsLoading (old new : World) : Type 0 where
  pub config : new.knows.config ≡ old.knows.config
  -- what was loaded
  pub origin : new.knows.origin ≡ old.knows.origin
  -- at most one op was taken
  pub takes : (old.fleet.takes ≤ new.fleet.takes) × (new.fleet.takes ≤ old.fleet.takes + 1)
  -- no replica of another master changed
  pub others : (b m s : ℕ) → (m ≡ old.knows.config.master → ⊥) → new.fleet.picture b m s ≡ old.fleet.picture b m s
  -- no least head of another master is raised
  pub least : (m : ℕ) → (m ≡ old.knows.config.master → ⊥) → new.fleet.least m ≡ old.fleet.least m
