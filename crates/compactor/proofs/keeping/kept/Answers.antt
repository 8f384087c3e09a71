use Rattle.compactor.proofs.keeping.kept.Goals as goal

pub returns-in-Tombstone : goal.returns-in-Tombstone
returns-in-Tombstone c = rw c.in-Tombstone.is c.has.ensures
