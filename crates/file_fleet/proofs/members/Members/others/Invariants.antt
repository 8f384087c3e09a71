use Rattle.std.proofs.Common.{◌≡◌, ℕ, ◌<◌, ◌++◌, get_or, drop}
use Rattle.backup.specs.Retire.{spots_of_others}
use Rattle.backup.specs.Shelf.{IsInOrder}
use Rattle.file_fleet.specs.declared.member.Member.{Member}
use Rattle.file_fleet.proofs.Inventory.{inventory_at, memory_at}
use Rattle.file_fleet.proofs.members.Members.others.Given as goal

abbrev pub invariant-loop-backup : goal.invariant-loop-backup
invariant-loop-backup g l = record {
  whole : l.spots.items ++ spots_of_others l.keep (inventory_at l.backup (drop l.backup l.self.list.items))
      ≡ spots_of_others l.keep (inventory_at 0 l.self.list.items);
  ordered : (k : ℕ) (d : Member g.row.D.Denot) → k < l.backup → IsInOrder (memory_at (get_or l.self.list.items k d));
}
