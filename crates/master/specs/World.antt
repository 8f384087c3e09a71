-- A master with its fleet.
use Rattle.replica.specs.Picture.{FleetState}
use Rattle.replica.specs.Take.{limited}
use Rattle.replica.specs.declared.op.TakeFault.{TakeFault}
use Rattle.replica.specs.declared.op.TakeFault.TheVariants as take_fault
use Rattle.std.specs.Prelude.{ℕ, Result, Err}
use Rattle.master_core.specs.master_state.Data.{MasterData}
use Rattle.master_core.specs.master_state.Steps.{halted}

-- what a clause sees of a master
pub record MasterValue (F : Type 0) : Type 0 where
  pub knows : MasterData
  pub fleet : F

-- what a master knows, and the state of its fleet
pub record World : Type 0 where
  pub knows : MasterData
  pub fleet : FleetState

abbrev pub world : {F : Type 0} → (F → FleetState) → MasterValue F → World
world state v = record { knows = v.knows; fleet = state v.fleet }

abbrev pub world_of : MasterData → FleetState → World
world_of d f = record { knows = d; fleet = f }

abbrev pub limited_world : World → ℕ → World
limited_world w n = record w { fleet = limited w.fleet n }

-- what a master knows once it freed what others left, or that ended so: after a fault of a backup it stays halted
abbrev pub retired_data : Result Unit TakeFault → MasterData → MasterData
retired_data (Err take_fault.Fault) d = halted d
retired_data result d = d
