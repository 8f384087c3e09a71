use Rattle.std.proofs.Common.{◌≡◌, ℕ, ◌<◌, ◌++◌, Option, get_or, drop}
use Rattle.file_fleet.specs.declared.member.Member.{Member}
use Rattle.fleet_start.proofs.Listing.{IsOrdered, list_at}
use Rattle.fleet_start.proofs.found.Found.inventory.Given as goal

abbrev pub invariant-loop-backup : goal.invariant-loop-backup
invariant-loop-backup g l = record {
  whole : l.list.items ++ list_at l.backup (drop l.backup l.self.places.items) ≡ list_at 0 l.self.places.items;
  ordered : (k : ℕ) (d : Option (Member g.row.D.Denot)) → k < l.backup → IsOrdered (get_or l.self.places.items k d);
}
