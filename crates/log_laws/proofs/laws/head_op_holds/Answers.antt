use Rattle.log_laws.proofs.Closing.{closes_held}
use Rattle.log_laws.proofs.HeadOps.{extends_held}
use Rattle.log_laws.proofs.Replacing.{replaces_held}
use Rattle.log_laws.proofs.laws.head_op_holds.Goals as goal

pub returns : goal.returns
returns c = record { extends = extends_held; replaces = replaces_held; closes = closes_held }
