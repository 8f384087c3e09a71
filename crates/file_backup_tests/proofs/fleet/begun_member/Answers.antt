use Rattle.std.proofs.Common.{[], sym, subst}
use Rattle.take_journal.specs.Device.{LeavesJust}
use Rattle.take_journal.specs.Memory.{memory_leaves}
use Rattle.take_journal.specs.declared.memory.MemoryDevice.{MemoryDevice}
use Rattle.file_backup_tests.proofs.fleet.begun_member.Goals as goal

pub begin-requires-clause-durable : goal.begin-requires-clause-durable
begin-requires-clause-durable c =
    subst (λ (d : MemoryDevice). LeavesJust [] (memory_leaves d)) (sym c.new-member.ensures.device)
    c.in-Ok.ensures.durable
