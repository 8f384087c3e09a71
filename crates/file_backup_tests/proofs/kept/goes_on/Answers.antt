use Rattle.std.proofs.Common.{[], sym, subst}
use Rattle.take_journal.specs.Device.{LeavesJust}
use Rattle.take_journal.specs.Memory.{memory_leaves}
use Rattle.take_journal.specs.declared.memory.MemoryDevice.{MemoryDevice}
use Rattle.file_backup_tests.proofs.kept.goes_on.Goals as goal

pub copy_to-requires-clause-durable : goal.copy_to-requires-clause-durable
copy_to-requires-clause-durable c =
    subst (λ (d : MemoryDevice). LeavesJust [] (memory_leaves d)) (sym c.new-journal.ensures.device)
    c.in-Ok.ensures.durable
