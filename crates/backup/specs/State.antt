-- What a fleet in memory holds.
use Rattle.std.specs.Prelude.{ℕ, ◌==◌, List, [], length, Option, Some, None, IsSome, not}
use Rattle.std.specs.List.{slice_get}
use Rattle.replica.specs.Picture.{Replica, Picture, FleetState, left_on}
use Rattle.replica.specs.Take.{no_limit}
use Rattle.backup.specs.declared.memory.MemoryBackup.{MemoryBackup}
use Rattle.backup.specs.declared.fleet.MemoryFleet.{MemoryFleet}
use Rattle.backup.specs.Registry.{least_in}
use Rattle.backup.specs.Shelf.{replica_at}

-- the replica of a master's segment on a backup, if there is that backup
abbrev pub replica_on : Option MemoryBackup → ℕ → ℕ → Option Replica
replica_on None m s = None
replica_on (Some memory) m s = replica_at memory m s

-- the backups are numbered by their order
abbrev pub picture_of : List MemoryBackup → Picture
picture_of backups = λ b m s. replica_on (slice_get backups b) m s

-- the fleet as the contract of a fleet sees it
abbrev pub fleet_state : MemoryFleet → FleetState
fleet_state fleet = record {
  backups = length fleet.backups.items;
  picture = picture_of fleet.backups.items;
  takes = fleet.takes;
  end = fleet.end;
  faults = fleet.faults;
  least = least_in fleet.registry;
  acks = fleet.acks.list;
}

-- a fleet of so many backups that holds nothing, without a limit, of which any head may be used
abbrev pub new_fleet : ℕ → FleetState
new_fleet backups = record {
  backups = backups;
  picture = λ b m s. None;
  takes = 0;
  end = no_limit;
  faults = 0;
  least = λ m. 0;
  acks = [];
}

-- the fleet in which one backup has lost all that it held; what it answered before stays answered
abbrev pub lost : FleetState → ℕ → FleetState
lost f b = record {
  backups = f.backups;
  picture = left_on (λ c. not (b == c)) f.picture;
  takes = f.takes;
  end = f.end;
  faults = f.faults;
  least = f.least;
  acks = f.acks;
}

-- this backup holds a replica
abbrev pub HoldsSome : Picture → ℕ → Type 0
HoldsSome p b = (m : ℕ) × (s : ℕ) × IsSome (p b m s)

-- some backup holds a replica
abbrev pub HoldsAny : Picture → Type 0
HoldsAny p = (b : ℕ) × HoldsSome p b
