-- What a master keeps that freed what others left, or was halted by that.
use Rattle.std.proofs.Common.{◌≡◌, refl}
use Rattle.std.specs.Prelude.{Result, Ok, Err}
use Rattle.replica.specs.declared.op.TakeFault.{TakeFault}
use Rattle.replica.specs.declared.op.TakeFault.TheVariants as take_fault
use Rattle.store_lines.specs.master.master_state.Data.{MasterData}
use Rattle.store_lines.specs.master.World.{retired_data}

pub same_config : (r : Result (Unit {0}) TakeFault) (d : MasterData) → (retired_data r d).config ≡ d.config
same_config (Ok u) d = refl
same_config (Err take_fault.NoMemory) d = refl
same_config (Err take_fault.Wrong) d = refl
same_config (Err take_fault.Fault) d = refl
same_config (Err take_fault.Spent) d = refl

pub same_history : (r : Result (Unit {0}) TakeFault) (d : MasterData) → (retired_data r d).history ≡ d.history
same_history (Ok u) d = refl
same_history (Err take_fault.NoMemory) d = refl
same_history (Err take_fault.Wrong) d = refl
same_history (Err take_fault.Fault) d = refl
same_history (Err take_fault.Spent) d = refl
