use Rattle.log_memory.proofs.FleetAnswers.{ok_holds_all, fault_keeps_all, fault_fails_over, op_is_never_wrong}
use Rattle.log_memory.proofs.fleets.answers_keep.Goals as goal

pub returns : goal.returns
returns c = record {
  ok = ok_holds_all;
  fault = fault_keeps_all;
  fails = fault_fails_over;
  right = op_is_never_wrong;
}
