use Rattle.log_laws.proofs.Knowing.{extends_fits, opens_fits, replaces_fits, raises_fits, closes_fits}
use Rattle.log_laws.proofs.Knowing.{reseals_fits, seals_fits, frees_fits, failing_known}
use Rattle.log_laws.proofs.laws.op_fits.Goals as goal

pub returns : goal.returns
returns c = record {
  extends = extends_fits;
  opens = opens_fits;
  replaces = replaces_fits;
  raises = raises_fits;
  closes = closes_fits;
  reseals = reseals_fits;
  seals = seals_fits;
  frees = frees_fits;
  fails = failing_known;
}
