use Rattle.log_memory.proofs.Beginning.{begin_keeps}
use Rattle.log_memory.proofs.BegunSurvivors.{begun_survivors}
use Rattle.log_memory.proofs.laws.begin_keeps.Goals as goal

pub returns : goal.returns
returns c = record { kept = begin_keeps; survivors = begun_survivors }
