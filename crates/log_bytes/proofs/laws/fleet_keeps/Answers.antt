use Rattle.log_bytes.proofs.Keeping.{keeping_is_sound, new_holds_log}
use Rattle.log_bytes.proofs.laws.fleet_keeps.Goals as goal

pub returns : goal.returns
returns c = record { sound = keeping_is_sound; new = new_holds_log }
