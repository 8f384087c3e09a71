use Rattle.log_laws.proofs.Opening.{opens_held, opens_standing, raises_held, raises_standing}
use Rattle.log_laws.proofs.laws.new_op_keeps.Goals as goal

pub returns : goal.returns
returns c = record {
  opens_held = opens_held;
  opens_standing = opens_standing;
  raises_held = raises_held;
  raises_standing = raises_standing;
}
