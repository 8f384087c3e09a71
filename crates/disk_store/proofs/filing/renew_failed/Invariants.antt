use Rattle.store_folders.specs.Files.{AreSafeHere}
use Rattle.disk_store.proofs.filing.renew_failed.Given as goal

abbrev pub invariant-loop-backup : goal.invariant-loop-backup
invariant-loop-backup l = AreSafeHere l.members
