use Rattle.log_laws.proofs.Adopting.{adopted_known}
use Rattle.log_laws.proofs.KnownSteps.{appended_known, rolling_known, ending_known, mended_known, id_taken_known}
use Rattle.log_laws.proofs.laws.knows_on.Goals as goal

pub returns : goal.returns
returns c = record {
  appended = appended_known;
  rolls = rolling_known;
  ends = ending_known;
  mended = mended_known;
  id = id_taken_known;
  adopted = adopted_known;
}
