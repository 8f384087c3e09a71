use Rattle.take_journal.specs.Memory.{memory_bytes, memory_has_failed, memory_leaves}
use Rattle.registry_file.specs.File.{IsBacked}
use Rattle.file_backup_tests.proofs.fleet.begun_registry.Given as goal

abbrev pub invariant-loop-backup : goal.invariant-loop-backup
invariant-loop-backup l = IsBacked memory_bytes memory_leaves memory_has_failed l.registry
