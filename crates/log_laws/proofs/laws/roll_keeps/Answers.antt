use Rattle.log_laws.proofs.Ending.{ending_is_held, ending_is_standing}
use Rattle.log_laws.proofs.Rolling.{rolling_is_held, rolling_is_standing}
use Rattle.log_laws.proofs.Turning.{ordinary_is_roll, ordinary_stands}
use Rattle.log_laws.proofs.laws.roll_keeps.Goals as goal

pub returns : goal.returns
returns c = record {
  begins_held = rolling_is_held;
  begins_standing = rolling_is_standing;
  ordinary = ordinary_is_roll;
  stands = ordinary_stands;
  ends_held = ending_is_held;
  ends_standing = ending_is_standing;
}
