use Rattle.std.specs.Prelude.{◌≡◌, length}
use Rattle.store_folders.specs.Files.{AreFoundHere}
use Rattle.store_folders.proofs.backups.find_backups.Given as goal

abbrev pub invariant-loop-backup : goal.invariant-loop-backup
invariant-loop-backup l = record {
  found : AreFoundHere l.found.places.items l.found.registry;
  count : length l.found.places.items ≡ l.backup;
  registry : l.found.registry ≡ l.fn.registry;
}
