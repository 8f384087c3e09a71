-- What one backup holds.
use Rattle.std.specs.Prelude.{◌≡◌, ℕ, ◌==◌, ◌&&◌, List, map, false, Option, Result}
use Rattle.replica.specs.declared.op.TakeFault.{TakeFault}
use Rattle.replica.specs.Op.{ActValue}
use Rattle.replica.specs.Picture.{Replica}
use Rattle.replica.specs.declared.holding.Holding.{Holding}
use Rattle.backup.specs.declared.memory.MemoryBackup.{MemoryBackup}
use Rattle.backup.specs.Acts.{Acts}
use Rattle.backup.specs.Slots.{AreOrdered, found_in}

-- the replica of a master's segment
abbrev pub replica_at : MemoryBackup → ℕ → ℕ → Option Replica
replica_at memory m s = found_in memory.replicas (m, s)

-- an act on the replica of a master's segment, by its answer
abbrev pub ActsAt : ActValue → ℕ → ℕ → MemoryBackup → Result Unit TakeFault → MemoryBackup → Type 0
ActsAt act m s old result new = Acts act (replica_at old m s) result (replica_at new m s)

-- each replica but that of this master's segment stays
abbrev pub KeepsOthers : ℕ → ℕ → MemoryBackup → MemoryBackup → Type 0
KeepsOthers master segment old new =
    (m s : ℕ) → ((master == m) && (segment == s)) ≡ false → replica_at new m s ≡ replica_at old m s

-- the replicas are in order
abbrev pub IsInOrder : MemoryBackup → Type 0
IsInOrder memory = AreOrdered memory.replicas

-- a replica, as the backup of this number shows it
abbrev pub holding_of : ℕ → (ℕ × ℕ) × Replica → Holding
holding_of b (place, r) =
    record { backup = b; master = place.0; segment = place.1; bytes = r.bytes; is_open = r.is_open }

-- all replicas, as the backup of this number shows them
abbrev pub holdings_of : ℕ → MemoryBackup → List Holding
holdings_of b memory = map (holding_of b) memory.replicas
