use Rattle.log_bytes.proofs.Keeping.{ok_is_spelled, fault_is_either, held_op_is_never_wrong}
use Rattle.log_bytes.proofs.laws.asked_is_spelled.Goals as goal

pub returns : goal.returns
returns c = record { ok = ok_is_spelled; fault = fault_is_either; never_wrong = held_op_is_never_wrong }
