-- What a master keeps, and one that is loading. What it knows, its memory, and the fleet obey the laws of a log.
use Rattle.std.specs.Prelude.{◌≡◌, ◌≤◌, ◌⊎◌, map, true, false}
use Rattle.replica.specs.Picture.{FleetState}
use Rattle.master_core.specs.log_memory.Fleet.{KeepsAll, HoldsAll, HoldsLoading}
use Rattle.master_core.specs.master_state.declared.waiting.Waiting.{Waiting}
use Rattle.master_core.specs.master_state.Causes.{is_done}
use Rattle.master_core.specs.master_state.Data.{MasterData}
use Rattle.master_core.specs.master_state.Invariant.{AreApart, IsCore}
use Rattle.master_core.specs.master_state.Loading.{IsBare}
use Rattle.master_core.specs.master_state.Log.{log_of, memory_of}
use Rattle.master.specs.Placed.{IsPlaced}

-- All is intact on the fleet. While it works, the master knows what its backups hold.
pub record IsWellKept (d : MasterData) (f : FleetState) : Type 0 where
  pub core : IsCore d
  pub placed : IsPlaced d
  pub kept : KeepsAll (log_of d) (memory_of d) f
  pub known : d.is_halted ≡ false → HoldsAll (log_of d) (memory_of d) f
  pub backups : d.config.backups ≤ f.backups
  -- no segment waits twice
  pub apart : AreApart (map (λ (w : Waiting). w.segment) d.waiting)

-- One that is loading has no history. Nothing is promised of it yet, so what a fault left of the backups doesn't
-- matter: after one it is never finished.
pub record IsWellLoaded (d : MasterData) (f : FleetState) : Type 0 where
  pub core : IsCore d
  pub bare : IsBare d
  pub placed : IsPlaced d
  pub loading : d.is_halted ≡ false → HoldsLoading (log_of d) (memory_of d) f
  pub backups : d.config.backups ≤ f.backups
  -- some replica lacks a part of what was loaded
  pub halted : d.is_halted ≡ true → is_done d ≡ false

-- a master, or one that is loading
abbrev pub IsServed : MasterData → FleetState → Type 0
IsServed d f = IsWellKept d f ⊎ IsWellLoaded d f

-- each stays what it is
abbrev pub StaysServed : MasterData → FleetState → MasterData → FleetState → Type 0
StaysServed d f e g = (IsWellKept d f → IsWellKept e g) × (IsWellLoaded d f → IsWellLoaded e g)
