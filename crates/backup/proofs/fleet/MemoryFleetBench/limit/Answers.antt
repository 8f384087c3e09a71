use Rattle.std.proofs.Common.{refl}
use Rattle.backup.proofs.fleet.MemoryFleetBench.limit.Goals as goal

pub returns-clause-limited : goal.returns-clause-limited
returns-clause-limited c = rw c.saturating_add-self.ensures refl
