use Rattle.log_laws.proofs.Adopting.{opening_is_apart}
use Rattle.log_laws.proofs.NewMaster.{fresh_is_kept}
use Rattle.log_laws.proofs.laws.failing_log_begins.Goals as goal

pub returns : goal.returns
returns c = record { fresh = fresh_is_kept; opening = opening_is_apart }
