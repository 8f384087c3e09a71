use Rattle.backup.proofs.memory.MemoryBackup.take.Goals as goal

pub returns-in-Seal-clause-named : goal.returns-in-Seal-clause-named
returns-in-Seal-clause-named c = rw (c.in-Seal.is, c.in-Seal.bytes-is) c.add-in-Seal.ensures.named
