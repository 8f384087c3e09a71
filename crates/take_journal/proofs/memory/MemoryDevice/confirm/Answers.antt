use Rattle.take_journal.proofs.Turning.{passes}
use Rattle.take_journal.proofs.memory.MemoryDevice.confirm.Goals as goal

pub returns-clause-time : goal.returns-clause-time
returns-clause-time c = passes c.turn.result c.args.self.now _ c.turn.ensures.ok c.turn.ensures.err
