use Rattle.log_memory.proofs.Repairing.{image_is_repair, repair_keeps}
use Rattle.log_memory.proofs.laws.repair_keeps.Goals as goal

pub returns : goal.returns
returns c = record { image = image_is_repair; keeps = repair_keeps }
