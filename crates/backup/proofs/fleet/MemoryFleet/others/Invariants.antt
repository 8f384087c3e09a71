use Rattle.std.proofs.Common.{◌≡◌, ℕ, ◌<◌, ◌++◌, get_or, drop}
use Rattle.backup.specs.declared.memory.MemoryBackup.{MemoryBackup}
use Rattle.backup.specs.Retire.{spots_of_others}
use Rattle.backup.specs.Shelf.{IsInOrder}
use Rattle.backup.proofs.Held.{inventory_of}
use Rattle.backup.proofs.fleet.MemoryFleet.others.Given as goal

abbrev pub invariant-loop-backup : goal.invariant-loop-backup
invariant-loop-backup l = record {
  whole : l.list.items ++ spots_of_others l.keep (inventory_of l.backup (drop l.backup l.self.backups.items))
      ≡ spots_of_others l.keep (inventory_of 0 l.self.backups.items);
  ordered : (k : ℕ) (d : MemoryBackup) → k < l.backup → IsInOrder (get_or l.self.backups.items k d);
}
