-- What a life of a master begins with.
use Rattle.std.specs.Prelude.{◌≡◌, ◌≤◌, ℕ, None, []}
use Rattle.command_line.specs.declared.settings.Options.{Options}
use Rattle.next_master.specs.master.master_state.declared.config.Config.{Config}
use Rattle.next_master.specs.master.master_state.Config.{config_fault}
use Rattle.next_master.specs.master.master_state.Data.{MasterData}
use Rattle.next_master.specs.master.Registry.{IsUnraised}
use Rattle.replica.specs.Picture.{FleetState}

-- the configuration is within its limits, and takes as many records as the options say
pub record IsChecked (options : Options) (config : Config) : Type 0 where
  pub valid : config_fault config ≡ None
  pub records : config.history ≡ options.history

-- the master's history is empty, and takes as many records as the options say
pub record IsOpening (options : Options) (d : MasterData) : Type 0 where
  pub records : d.config.history ≡ options.history
  pub empty : d.history ≡ []

-- a master of this configuration can begin over the fleet
pub record CanBegin (options : Options) (fleet : FleetState) (config : Config) : Type 0 where
  pub checked : IsChecked options config
  pub backups : config.backups ≤ fleet.backups
  pub unused : (b s : ℕ) → fleet.picture b config.master s ≡ None
  pub least : IsUnraised config.master fleet
