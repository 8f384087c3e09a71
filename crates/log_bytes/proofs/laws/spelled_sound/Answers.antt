use Rattle.log_bytes.proofs.GreatestOpened.{newest_is_opened}
use Rattle.log_bytes.proofs.Soundness.{spelled_is_sound}
use Rattle.log_bytes.proofs.Surviving.{survives_in_model}
use Rattle.log_bytes.proofs.laws.spelled_sound.Goals as goal

pub returns : goal.returns
returns c = record { survival = survives_in_model; newest = newest_is_opened; sound = spelled_is_sound }
