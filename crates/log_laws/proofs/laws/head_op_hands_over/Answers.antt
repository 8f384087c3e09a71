use Rattle.log_laws.proofs.HeadOps.{extend_hands_over}
use Rattle.log_laws.proofs.laws.head_op_hands_over.Goals as goal

pub returns : goal.returns
returns c = extend_hands_over
