use Rattle.adoptable.proofs.Starting.{new_keeps_limit, adopted_keeps_limit}
use Rattle.adoptable.proofs.Stepping.{step_keeps_limit, run_keeps_limit}
use Rattle.adoptable.proofs.laws.limits_are_kept.Goals as goal

pub returns : goal.returns
returns c = record {
  new = new_keeps_limit;
  step = step_keeps_limit;
  run = run_keeps_limit;
  adopted = adopted_keeps_limit;
}
