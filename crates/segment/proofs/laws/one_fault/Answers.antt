use Rattle.segment.proofs.OneFault.{one_fault}
use Rattle.segment.proofs.laws.one_fault.Goals as goal

pub returns : goal.returns
returns c = one_fault
