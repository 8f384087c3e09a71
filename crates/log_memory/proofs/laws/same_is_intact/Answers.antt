use Rattle.log_memory.proofs.SameMemories.{same_is_intact, same_knows}
use Rattle.log_memory.proofs.laws.same_is_intact.Goals as goal

pub returns : goal.returns
returns c = record { intact = same_is_intact; knows = same_knows }
