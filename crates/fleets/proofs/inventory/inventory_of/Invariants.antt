use Rattle.std.proofs.Common.{◌≡◌, ℕ, ◌<◌, ◌++◌, get_or, drop}
use Rattle.backup.specs.Shelf.{IsInOrder}
use Rattle.file_fleet.specs.declared.member.Member.{Member}
use Rattle.file_fleet.proofs.Inventory.{inventory_at, memory_at}
use Rattle.fleets.proofs.inventory.inventory_of.Given as goal

abbrev pub invariant-loop-backup : goal.invariant-loop-backup
invariant-loop-backup g l = record {
  whole : l.list.items ++ inventory_at l.backup (drop l.backup l.members) ≡ inventory_at 0 l.members;
  ordered : (k : ℕ) (d : Member g.row.D.Denot) → k < l.backup → IsInOrder (memory_at (get_or l.members k d));
}
