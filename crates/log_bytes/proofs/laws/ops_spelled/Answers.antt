use Rattle.log_bytes.proofs.FleetOps.{op_is_never_wrong, taken_is_spelled, fault_is_spelled}
use Rattle.log_bytes.proofs.laws.ops_spelled.Goals as goal

pub returns : goal.returns
returns c = record { never_wrong = op_is_never_wrong; taken = taken_is_spelled; fault = fault_is_spelled }
