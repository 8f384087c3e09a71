use Rattle.log_laws.proofs.NewIds.{id_taken_is_held, id_taken_is_standing}
use Rattle.log_laws.proofs.Spares.{seals_held, seals_standing, frees_held}
use Rattle.log_laws.proofs.laws.spare_keeps.Goals as goal

pub returns : goal.returns
returns c = record {
  id_held = id_taken_is_held;
  id_standing = id_taken_is_standing;
  seals_held = seals_held;
  seals_standing = seals_standing;
  frees_held = frees_held;
}
