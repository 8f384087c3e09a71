use Rattle.adoptable.proofs.Fitting.{more_admits}
use Rattle.adoptable.proofs.Living.{lives_keep_limit, recoveries_fit}
use Rattle.adoptable.proofs.Refusing.{recovered_fits, within_is_adopted}
use Rattle.adoptable.proofs.laws.recoveries_fit.Goals as goal

pub returns : goal.returns
returns c = record {
  more = more_admits;
  recovered = recovered_fits;
  within = within_is_adopted;
  lives = lives_keep_limit;
  fit = recoveries_fit;
}
