-- A store that was opened, and what its numbers are.
use Rattle.std.specs.Prelude.{◌≡◌, ◌-◌, length, Option, Some, None}
use Rattle.backup.specs.State.{fleet_state, new_fleet}
use Rattle.backup.specs.declared.fleet.MemoryFleet.{MemoryFleet}
use Rattle.packing.specs.Limits.{is_limit}
use Rattle.recovery.specs.master.Valid.{IsValid}
use Rattle.recovery.specs.master.World.{MasterValue}
use Rattle.recovery.specs.master.log_laws.Data.{durable_of}
use Rattle.recovery.specs.master.master_failover.Left.{left_now}
use Rattle.recovery.specs.master.master_state.Budget.{free_seglets}
use Rattle.recovery.specs.master.master_state.Config.{sizes_of}
use Rattle.recovery.specs.master.master_state.Data.{MasterData, fresh_data}
use Rattle.recovery.specs.master.master_state.Log.{log_of}
use Rattle.embedded.specs.Options.{config_of}
use Rattle.embedded.specs.declared.life.Life.{Life}
use Rattle.embedded.specs.declared.life.Life.TheVariants.{Up}
use Rattle.embedded.specs.declared.options.Options.{Options}
use Rattle.embedded.specs.declared.store.Stats.{Stats}
use Rattle.embedded.specs.declared.store.Store.{Store}

-- The store has a new master with number 1, of these options, over backups that hold nothing.
pub record IsOpened (o : Options) (store : Store) : Type 0 where
  pub options : store.options ≡ o
  pub master : store.master ≡ 1
  pub used : store.used ≡ 1
  pub first : MasterValue MemoryFleet
  pub life : store.life ≡ Up first
  pub fresh : first.knows ≡ fresh_data (config_of o 1)
  pub fleet : fleet_state first.fleet ≡ new_fleet o.backups
  pub valid : IsValid first.knows (fleet_state first.fleet)

-- the numbers of a master
abbrev pub stats_of : MasterData → Stats
stats_of d = record {
  live = d.live;
  free_seglets = free_seglets d;
  records = length d.history - d.forgotten;
  durable = durable_of (log_of d);
  failover_left = left_now d;
  failed = length d.failed;
  is_adoptable = is_limit (sizes_of d.config) d.config.largest d.live;
}

-- the numbers of a store with a master; none of another one
abbrev pub Shows : Life → Option Stats → Type 0
Shows (Up m) stats = stats ≡ Some (stats_of m.knows)
Shows _ stats = stats ≡ None
