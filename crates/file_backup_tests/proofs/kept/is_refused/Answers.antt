use Rattle.std.proofs.Common.{sym, subst}
use Rattle.take_journal.specs.Device.{LeavesJust}
use Rattle.take_journal.specs.Memory.{memory_leaves}
use Rattle.take_journal.specs.declared.memory.MemoryDevice.{MemoryDevice}
use Rattle.file_backup_tests.proofs.kept.is_refused.Goals as goal

pub open-requires-clause-durable : goal.open-requires-clause-durable
open-requires-clause-durable c =
    subst (λ (d : MemoryDevice). LeavesJust c.args.row.now.file.now (memory_leaves d))
    (sym c.new-registry.ensures.device)
    c.in-Ok.ensures.durable
