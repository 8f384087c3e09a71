-- What is true of every master and its fleet, after each step.
use Rattle.std.specs.Prelude.{◌≡◌, ◌≤◌, ◌⊎◌, ◌↔◌, ℕ, length, true, None, IsSome}
use Rattle.entry.specs.Bag.{IsAmong}
use Rattle.replica.specs.Picture.{FleetState}
use Rattle.versioned_map.specs.History.{IsLegal}
use Rattle.master_core.specs.log_laws.Data.{Mends, durable_of}
use Rattle.master_core.specs.log_bytes.Choice.{IsOpenedHead, IsNewestOpenedOrNone, newest_opened}
use Rattle.master_core.specs.log_bytes.Sound.{IsSoundInBytes}
use Rattle.master_core.specs.log_memory.Covered.{IsCovered}
use Rattle.master_core.specs.log_memory.Fleet.{CountsDurable, read_of, shown_for}
use Rattle.master_core.specs.log_memory.Memory.{log_ids}
use Rattle.master_core.specs.master_state.Budget.{used_seglets}
use Rattle.master_core.specs.master_state.Causes.{is_done}
use Rattle.master_core.specs.master_state.Config.{config_fault}
use Rattle.master_core.specs.master_state.Data.{MasterData}
use Rattle.master_core.specs.master_state.Kept.{AreFewKept}
use Rattle.master_core.specs.master_state.Log.{opening_of, log_of, state_now, durable_now, image_of, memory_of}
use Rattle.master_core.specs.master_state.Log.{IsIndexed}
use Rattle.master_core.specs.master_state.Invariant.{AreWhole}
use Rattle.master.specs.Placed.{IsPlaced}
use Rattle.master.specs.Survive.{SurvivesFew}

-- the first head, if a backup's failure has kept it from being open: a new one takes its place
abbrev pub IsGivenUp : MasterData → ℕ → Type 0
IsGivenUp d s = ((log_of d).mode ≡ Mends) × ((log_of d).head.start.id ≡ 0) × (s ≡ d.head.id)

-- What is true of a master, by what it knows and what its fleet holds. `Master::show_valid` gives it at any time, and
-- each step keeps it. Three of its fields are what the store is for. `legal`: the replies are those of the versioned
-- map. `sound`: whichever backups are left, their replicas stand for the map after a prefix of the history that has
-- each durable record, or a head or a segment is lost. `covered`: memory and the replicas of the log stand for the map
-- after the whole history, whatever was compacted or cleaned. The others say how the code's own counts and tables agree
-- with the history.
pub record IsValid (d : MasterData) (f : FleetState) : Type 0 where
  pub config : config_fault d.config ≡ None
  -- no more records are kept than the configuration allows
  pub history : AreFewKept (length d.history) d.forgotten d.config.history
  -- the replies are the versioned map's
  pub legal : IsLegal (opening_of d) d.history
  -- the index finds exactly the map's objects
  pub index : IsIndexed d
  -- the version that the next new key gets is the map's
  pub safe : d.safe ≡ (state_now d).safe
  -- memory has an image of each segment of the log set, and of no other, but for a first head that is given up
  pub imaged : (s : ℕ) → IsSome (image_of d s) ↔ (IsAmong s (log_ids (log_of d) (memory_of d)) ⊎ IsGivenUp d s)
  -- no more seglets of memory are counted than there are
  pub budget : used_seglets d ≤ d.config.seglets
  -- whatever backups are left, they hold a prefix that has each durable command, or a loss is named
  pub sound : IsSoundInBytes d.config.master (log_of d) (shown_for (log_of d) f)
  -- the newest head that was opened on all its backups
  pub newest : IsNewestOpenedOrNone (IsOpenedHead (log_of d) d.config.master (shown_for (log_of d) f))
      (f.least d.config.master)
      (newest_opened (log_of d))
  -- a segment's replicas go to its homes
  pub placed : IsPlaced d
  -- while no failover is open, each segment of the digest in force has all its replicas
  pub whole : d.failover ≡ None → AreWhole d
  -- so the loss of fewer backups than a segment has replicas leaves head and segments
  pub survive : SurvivesFew d f
  -- memory and the replicas of the log hold the map
  pub covered : IsCovered (log_of d) (memory_of d) (read_of (log_of d) f)
  -- what is durable was answered Ok by as many backups as replicas
  pub durable : CountsDurable (log_of d) (memory_of d) f
  -- what the master counts is the durable count
  pub counted : durable_now d ≡ durable_of (log_of d)
  -- if nothing waits to be pushed, each record is durable
  pub pushed : is_done d ≡ true → durable_of (log_of d) ≡ length d.history
