use Rattle.take_journal.specs.Memory.{memory_bytes, memory_has_failed, memory_leaves}
use Rattle.registry_file.specs.File.{IsBacked}
use Rattle.file_backup_tests.proofs.kept.put_each.Given as goal

abbrev pub invariant-loop-number : goal.invariant-loop-number
invariant-loop-number l = IsBacked memory_bytes memory_leaves memory_has_failed l.registry
