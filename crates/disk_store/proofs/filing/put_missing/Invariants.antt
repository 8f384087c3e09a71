use Rattle.std.specs.Prelude.{◌≡◌, length}
use Rattle.store_folders.specs.Files.{AreFoundHere}
use Rattle.disk_store.proofs.filing.put_missing.Given as goal

abbrev pub invariant-loop-backup : goal.invariant-loop-backup
invariant-loop-backup l = AreFoundHere l.found.places.items l.found.registry
    × (length l.found.places.items ≡ length l.fn.found.places.items)
