use Rattle.log_laws.proofs.Failing.{failing_is_held, failing_is_standing, mended_is_held}
use Rattle.log_laws.proofs.Failing.{mended_is_standing}
use Rattle.log_laws.proofs.laws.failover_keeps.Goals as goal

pub returns : goal.returns
returns c = record {
  fails_held = failing_is_held;
  fails_standing = failing_is_standing;
  ends_held = mended_is_held;
  ends_standing = mended_is_standing;
}
