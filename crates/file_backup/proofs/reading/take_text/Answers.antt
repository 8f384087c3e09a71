use Rattle.std.proofs.Common.{sym}
use Rattle.replica.specs.Op.{shown_op}
use Rattle.file_backup.proofs.Replays.{memory_takes}
use Rattle.file_backup.proofs.reading.take_text.Goals as goal

pub returns-in-Some : goal.returns-in-Some
returns-in-Some c =
    memory_takes c.args.memory.now c.take.new.self (shown_op c.in-Some.op) c.args.text.now c.take.result
    (sym c.in-Some.ensures) c.take.ensures.named c.take.ensures.others
