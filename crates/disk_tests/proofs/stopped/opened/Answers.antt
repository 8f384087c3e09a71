use Rattle.std.proofs.Common.{subst, sym}
use Rattle.take_journal.specs.Device.{LeavesJust}
use Rattle.take_journal.specs.Memory.{memory_leaves}
use Rattle.disk_tests.proofs.stopped.opened.Goals as goal

pub open-requires-clause-durable : goal.open-requires-clause-durable
open-requires-clause-durable c =
    subst (λ d. LeavesJust c.args.disk.now (memory_leaves d)) (sym c.new-journal.ensures.device) c.in-Ok.ensures.durable
