use Rattle.log_laws.proofs.Resealing.{reseals_held, reseals_standing}
use Rattle.log_laws.proofs.laws.repair_keeps.Goals as goal

pub returns : goal.returns
returns c = record { held = reseals_held; standing = reseals_standing }
