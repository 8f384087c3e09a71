use Rattle.replica.specs.Op.{Extend}
use Rattle.backup.proofs.Acting.{change_acts, change_keeps}
use Rattle.backup.proofs.memory.MemoryBackup.extend_moved.Goals as goal

pub returns-clause-named : goal.returns-clause-named
returns-clause-named c =
    change_acts c.args.self.now.replicas c.requires.ordered c.args.place c.args.found c.requires.found
    c.enlarge.new.self.replicas c.enlarge.ensures c.extend.new.self (Extend c.args.at c.args.bytes.now) c.extend.result
    c.stored_mut.result.now c.stored_mut.ensures.value c.extend.ensures

pub returns-clause-others : goal.returns-clause-others
returns-clause-others c =
    change_keeps c.args.self.now.replicas c.requires.ordered c.args.place c.args.found c.requires.found
    c.enlarge.new.self.replicas c.enlarge.ensures c.extend.new.self
