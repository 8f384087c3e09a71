use Rattle.log_laws.proofs.Appending.{appended_is_held}
use Rattle.log_laws.proofs.Applying.{applied_is_standing}
use Rattle.log_laws.proofs.laws.command_keeps.Goals as goal

pub returns : goal.returns
returns c = record { held = appended_is_held; standing = applied_is_standing }
