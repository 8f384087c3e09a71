use Rattle.log_laws.proofs.Closing.{closes_standing}
use Rattle.log_laws.proofs.HeadOps.{extends_standing}
use Rattle.log_laws.proofs.Replacing.{replaces_standing}
use Rattle.log_laws.proofs.laws.head_op_stands.Goals as goal

pub returns : goal.returns
returns c = record { extends = extends_standing; replaces = replaces_standing; closes = closes_standing }
