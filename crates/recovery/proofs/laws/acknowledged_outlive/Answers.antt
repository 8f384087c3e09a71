use Rattle.recovery.proofs.Outliving.{acknowledged_outlive}
use Rattle.recovery.proofs.laws.acknowledged_outlive.Goals as goal

pub returns : goal.returns
returns c = acknowledged_outlive
