-- Commands that share their pushes.
use Rattle.std.specs.Prelude.{◌≡◌, ◌⊎◌, Some}
use Rattle.versioned_map.specs.declared.command.Command.{Command}
use Rattle.recovery.specs.master.master_state.Causes.{command_refusal}
use Rattle.recovery.specs.master.master_state.Data.{MasterData}
use Rattle.recovery.specs.master.master_state.declared.step.Refusal.{Refusal}
use Rattle.recovery.specs.master.master_state.declared.step.Refusal.TheVariants.{NoMemory}

-- A command wasn't applied, and nothing changed. A test refused it for this reason, or memory ran out.
pub record IsNotApplied (old : MasterData) (command : Command) (r : Refusal) (new : MasterData) : Type 0 where
  pub same : new ≡ old
  pub why : (command_refusal old command ≡ Some r) ⊎ (r ≡ NoMemory)
